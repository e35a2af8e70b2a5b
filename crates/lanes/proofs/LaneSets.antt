-- Words as sets of lanes: unions and intersections.
use Rattle.std.proofs.Common.{ℕ, ◌-◌, ◌^◌, ◌<◌, ◌⊎◌, inl, inr, ⊎_elim, arith}
use lib.Bits.{bit_and, bit_or}
use Rattle.rules.specs.Semantics.{Mem}
use Rattle.rules.proofs.Bitwise.{mem_cases, mem_and, mem_and_left, mem_and_right, mem_or_left, mem_or_right, mem_or_cases, mem_below, rest_mem, not_in_zero}
use Rattle.steps.specs.Parts.{SetOf}

-- Sets of lanes

pub set_or : {x y : ℕ} {P Q : ℕ → Type 0} → SetOf x P → SetOf y Q → SetOf (bit_or x y) (λ l. P l ⊎ Q l)
set_or {x} {y} s t = record {
  all = λ l. ⊎_elim (λ p. mem_or_left l x y (s.all l p)) (λ q. mem_or_right l x y (t.all l q));
  only = λ l h. ⊎_elim (λ a. inl (s.only l a)) (λ b. inr (t.only l b)) (mem_or_cases l x y h);
}

pub set_and : {x y : ℕ} {P Q : ℕ → Type 0} → SetOf x P → SetOf y Q → SetOf (bit_and x y) (λ l. P l × Q l)
set_and {x} {y} s t = record {
  all = λ l w. mem_and l x y (s.all l w.0) (t.all l w.1);
  only = λ l h. (s.only l (mem_and_left l x y h), t.only l (mem_and_right l x y h));
}

-- the other lanes
pub set_not : {x : ℕ} {P : ℕ → Type 0} → x < 2 ^ 64 → SetOf x P → SetOf (2 ^ 64 - 1 - x) (λ l. (l < 64) × (P l → ⊥))
set_not {x} b s = record {
  all = λ l w. rest_mem 64 x l b w.0 (λ h. w.1 (s.only l h));
  only = λ l h. let k = mem_below 64 (2 ^ 64 - 1 - x) l (omega arith) h in (k, λ p. Rattle.rules.proofs.Bitwise.rest_not 64 x l b k h (s.all l p));
}

pub set_full : SetOf (2 ^ 64 - 1) (λ l. l < 64)
set_full = record {
  all = λ l h. rest_mem 64 0 l (omega arith) h (λ z. not_in_zero l z);
  only = λ l h. mem_below 64 (2 ^ 64 - 1) l (omega arith) h;
}

-- a word's own lanes
pub set_own : (w : ℕ) → SetOf w (λ l. Mem l w)
set_own w = record { all = λ l h. h; only = λ l h. h }
