use Rattle.std.proofs.Common.{length, ap, ◌∙◌}
use Rattle.std.proofs.lemmas.List.{take_at}
use Rattle.orders.specs.Grading.{graded}
use Rattle.orders.proofs.grades.Grades.set.Goals as goal

pub returns : goal.returns
unfolding graded
returns c =
    let e = c.copy_from_slice.ensures.after in
    (c.if-grades-gt-MOST_SHEETS.false, take_at c.copy_from_slice.new.self _ _ (ap length e) ∙ e)
