-- The grades of sheets: those that were given, and 0 for every sheet past them.
use Rattle.std.specs.Prelude.{◌≡◌, ℕ, ◌<◌, ◌≤◌, List, length, take, Ok, Err, Result}
use Rattle.orders.specs.declared.fault.OrderFault.{OrderFault}
use Rattle.orders.specs.declared.grades.Grades.{Grades}
use Rattle.orders.specs.Faults.{order_number}
use Rattle.orders.specs.Overrules.{grade_in}

unfoldable pub graded : Grades → List ℕ
graded g = take g.len g.bytes

abbrev pub grade : Grades → ℕ → ℕ
grade g i = grade_in (graded g) i

abbrev pub Sets : {U : Type 0} → List ℕ → Grades → Result U OrderFault → Grades → Type 0
Sets given old (Ok u) new = (length given ≤ 32) × (graded new ≡ given)
Sets given old (Err f) new = (32 < length given) × (order_number f ≡ 15) × (new ≡ old)
