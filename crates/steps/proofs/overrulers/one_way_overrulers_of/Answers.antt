use Rattle.std.proofs.Common.{rules}
use Rattle.steps.proofs.Gathering.{decided_set}
use Rattle.steps.proofs.overrulers.one_way_overrulers_of.Goals as goal

pub returns : goal.returns
returns c = λ over t. decided_set c.those.ensures.below (λ a l. let h = c.those.ensures.each a l in search rules)
