use Rattle.std.proofs.Common.{rules}
use Rattle.steps.proofs.Gathering.{decided_set}
use Rattle.steps.proofs.Opposing.{unclaimed}
use Rattle.steps.proofs.claims.Claims.defaults.Goals as goal

pub returns : goal.returns
returns c = unclaimed c.requires (decided_set c.those.ensures.below (λ a l. let h = c.those.ensures.each a l in search rules))
