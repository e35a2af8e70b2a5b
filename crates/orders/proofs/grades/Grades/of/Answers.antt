use Rattle.std.proofs.Common.{rules}
use Rattle.std.proofs.lemmas.Option.{unwrap_or-slice_get}
use Rattle.orders.specs.Grading.{graded}
use Rattle.orders.proofs.grades.Grades.of.Goals as goal

pub returns : goal.returns
unfolding graded
returns c = search (rules, unwrap_or-slice_get)
