use Rattle.std.proofs.Common.{arith}
use Rattle.evaluator.proofs.Between.{undecided_set}
use Rattle.evaluator.proofs.finder.bounds.undecided.Goals as goal

pub returns : goal.returns
returns c = undecided_set c.requires (c.all_matters.ensures.few c.requires) (omega arith) (omega arith)
