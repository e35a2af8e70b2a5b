use Rattle.std.proofs.Common.{refl}
use Rattle.orders.specs.Grading.{graded}
use Rattle.orders.proofs.grades.Grades.new.Goals as goal

pub returns : goal.returns
unfolding graded
returns c = refl
