-- Which condition of a table is the first that is met. `first-met` computes to a chain of `cond`, and these lemmas take it link by link.
use Rattle.std.proofs.Common.{◌≡◌, ℕ, Bool, true, false, cond, ◌⊎◌, Some, None, Option, refl, inl, inr, arith}

-- a condition that is met here
pub met : (k : ℕ) {b : Bool} (rest : Option ℕ) → b ≡ true → cond b (Some k) rest ≡ Some k
met k rest e = rw e

-- one that is not: go on
pub unmet : (k : ℕ) {b : Bool} {o : Option ℕ} (rest : Option ℕ) → b ≡ false → rest ≡ o → cond b (Some k) rest ≡ o
unmet k rest e h = rw e h

-- and back
pub none_met : (k : ℕ) (b : Bool) (rest : Option ℕ) → cond b (Some k) rest ≡ None → (b ≡ false) × (rest ≡ None)
none_met k true rest e = let z : ◌≡◌ {A = ℕ} 0 1 = cc in absurd (omega arith)
none_met k false rest e = (refl, e)

pub one_met : (k j : ℕ) (b : Bool) (rest : Option ℕ) → cond b (Some k) rest ≡ Some j → ((b ≡ true) × (k ≡ j)) ⊎ ((b ≡ false) × (rest ≡ Some j))
one_met k j true rest e = inl (refl, cc)
one_met k j false rest e = inr (refl, e)

-- a table does both at no time
pub none≢some : {o : Option ℕ} {k : ℕ} → o ≡ None → o ≡ Some k → ⊥
none≢some n s = let z : ◌≡◌ {A = ℕ} 0 1 = cc in omega arith
