-- How a call refuses. Its conditions stand in a table in checking order, each with its number; the first that is met gives the number.
use Rattle.std.specs.Prelude.{◌≡◌, ℕ, Bool, cond, List, [], ◌∷◌, Some, None, Ok, Err, Option, Result}

abbrev pub Table : Type 0
Table = List (ℕ × Bool)

abbrev pub first_met : Table → Option ℕ
first_met [] = None
first_met (c ∷ cs) = cond c.1 (Some c.0) (first_met cs)

-- a call with this table answers `Ok` with what is done then if no condition is met,
-- and otherwise refuses by the number of the first, with what stands then
abbrev pub Judged : {U F : Type 0} → (F → ℕ) → Table → (U → Type 0) → Type 0 → Result U F → Type 0
Judged number table done stands (Ok u) = (first_met table ≡ None) × done u
Judged number table done stands (Err f) = (first_met table ≡ Some (number f)) × stands
