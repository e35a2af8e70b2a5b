-- The parts of a set, numbered.
use Rattle.std.specs.Prelude.{ℕ, zero, suc, ◌+◌, ◌*◌, ◌/◌, ◌%◌, ◌^◌, ◌<◌, min}
use Rattle.rules.specs.Semantics.{LiteralSet, Mem}

-- how many matters of the set are below a
unfoldable pub rank : ℕ → ℕ → ℕ
rank m zero = 0
rank m (suc a) = m % 2 + rank (m / 2) a

-- the part number t of the matters below k of a set: bit i of t says whether it has the i-th lowest of them
unfoldable pub part : ℕ → ℕ → ℕ → ℕ
part zero m t = 0
part (suc k) m t = min (m % 2) (t % 2) + 2 * part k (m / 2) (t / 2 ^ (m % 2))

-- X holds neither sign of the matter
abbrev pub Undecided : ℕ → LiteralSet → ℕ → Type 0
Undecided n X a = (a < n) × (Mem a X.0 → ⊥) × (Mem a X.1 → ⊥)
