-- For the loop that gathers a set: what was asked of each of the first i numbers tells whether the set has it.
use Rattle.std.proofs.Common.{ℕ, ◌+◌, ◌*◌, ◌%◌, ◌^◌, ◌<◌, Bool, true, false, eqb, sym, ap, subst, arith, below_more, Decides}
use lib.Bits.{bit_or}
use mir.Syntax.{w32}
use Rattle.std.proofs.Math.Pow.{pow-lt}
use Rattle.std.proofs.lemmas.Nat.{or_lt}
use Rattle.std.proofs.lemmas.Bool.{eq-eqb, ne_eqb, eqb-true}
use Rattle.std.proofs.lemmas.Nat.Bits.{bit_at_set_same, bit_at_set_other}
use Rattle.rules.specs.Semantics.{member}
use Rattle.rules.proofs.Bitwise.{mem_below}
use Rattle.steps.specs.Parts.{SetOf}

-- each of the first i numbers was told of, by whether the set has it, and no other is in it
pub record Gathered (Told : ℕ → Bool → Type 0) (i m : ℕ) : Type 0 where
  pub below : m < 2 ^ i
  pub each : (a : ℕ) → a < i → Told a (member a m)

pub with_one : {Told : ℕ → Bool → Type 0} {i m : ℕ} → i < 32 → Gathered Told i m → Told i true → Gathered Told (i + 1) (bit_or m (1 * 2 ^ i % 2 ^ 32))
with_one {Told} {i} {m} l s here = record {
  below =
      let more : 2 ^ i < 2 ^ (i + 1) = pow-lt (omega arith) in
      or_lt (i + 1) m (1 * 2 ^ i % 2 ^ 32) (omega arith) (omega arith);
  each = below_more (λ a. Told a (member a (bit_or m (1 * 2 ^ i % 2 ^ 32)))) i
      (λ a h. subst (Told a) (sym (ap (λ (n : ℕ). eqb n 1) (bit_at_set_other w32 m i l a (λ e. omega arith)))) (s.each a h))
      (subst (Told i) (sym (eq-eqb _ _ (bit_at_set_same w32 m i l))) here);
}

pub without_one : {Told : ℕ → Bool → Type 0} {i m : ℕ} → Gathered Told i m → Told i false → Gathered Told (i + 1) m
without_one {Told} {i} {m} s here = record {
  below = let more : 2 ^ i < 2 ^ (i + 1) = pow-lt (omega arith) in omega arith;
  each = below_more (λ a. Told a (member a m)) i s.each
      (subst (Told i) (sym (ne_eqb _ _ (λ e. let h = mem_below i m i s.below e in absurd (omega arith)))) here);
}

-- a number whose bits below n decide what is wanted, and that has no others
pub decided_set : {wanted : ℕ → Type 0} {n m : ℕ} → m < 2 ^ n → ((a : ℕ) → a < n → Decides (member a m) (wanted a)) → SetOf m (λ a. (a < n) × wanted a)
decided_set {wanted} {n} {m} below each = record {
  all = λ a w. eqb-true _ _ ((each a w.0).1 w.1);
  only = λ a h. let l = mem_below n m a below h in (l, (each a l).0 (eq-eqb _ _ h));
}
