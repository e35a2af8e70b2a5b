-- When sheet j overrules sheet i, in each of the orders. A sheet past the given grades has grade 0.
use Rattle.std.specs.Prelude.{ℕ, ◌&&◌, ◌||◌, List, ◌==◌, nat_le, nat_lt, slice_index}
use Rattle.rules.specs.Semantics.{Overruling}

abbrev pub grade_in : List ℕ → ℕ → ℕ
grade_in gs i = slice_index gs i

-- j is at least i
abbrev pub by_position : Overruling
by_position j i = nat_le i j

-- the grade of j is at least that of i
abbrev pub by_grade : List ℕ → Overruling
by_grade gs j i = nat_le (grade_in gs i) (grade_in gs j)

-- j has a greater grade, or an equal one and j is at least i
abbrev pub by_grade_then_position : List ℕ → Overruling
by_grade_then_position gs j i = nat_lt (grade_in gs i) (grade_in gs j) || (grade_in gs i == grade_in gs j && by_position j i)
