-- A set without its lowest member.
use Rattle.std.proofs.Common.{◌≡◌, ℕ, zero, suc, ◌-◌, ◌*◌, ◌/◌, ◌%◌, ◌^◌, ◌<◌, sym, ap, ◌∙◌, subst, ⊎_elim, arith}
use native.Mathlib.Nat.{pow-succ'}
use lib.Bits.{bit_and, and_step}
use lib.Count.{count_trailing_zeros, under}
use Rattle.rules.specs.Semantics.{Mem}
use Rattle.rules.proofs.Bitwise.{half_bit, two, mem_and, mem_and_left}

abbrev pub dropped : ℕ → ℕ
dropped m = bit_and m (m - 1)

tz_even : (k m : ℕ) → m % 2 ≡ 0 → count_trailing_zeros (suc k) m ≡ suc (count_trailing_zeros k (m / 2))
unfolding count_trailing_zeros
tz_even k m e = ap (λ (d : ℕ). under d (count_trailing_zeros k (m / 2))) e

tz_odd : (k m : ℕ) → m % 2 ≡ 1 → count_trailing_zeros (suc k) m ≡ 0
unfolding count_trailing_zeros
tz_odd k m e = ap (λ (d : ℕ). under d (count_trailing_zeros k (m / 2))) e

even_half : (m : ℕ) → m % 2 ≡ 0 → 0 < m → dropped m ≡ 2 * dropped (m / 2)
even_half m e f =
    let h : (m - 1) / 2 ≡ m / 2 - 1 = omega arith in
    let s = and_step m (m - 1) in
    let q = ap (bit_and (m / 2)) h in
    omega arith

odd_half : (m : ℕ) → m % 2 ≡ 1 → dropped m ≡ 2 * bit_and (m / 2) (m / 2)
odd_half m e =
    let h : (m - 1) / 2 ≡ m / 2 = omega arith in
    let s = and_step m (m - 1) in
    let q = ap (bit_and (m / 2)) h in
    omega arith

low_even : (z : ℕ) → Mem 0 (2 * z) → ⊥
low_even z h = let e : 2 * z / 1 % 2 ≡ 1 = h in omega arith

high_even : (z j : ℕ) → (2 * z) / 2 ^ suc j % 2 ≡ z / 2 ^ j % 2
high_even z j = let e : 2 * z / 2 ≡ z = omega arith in sym (half_bit (2 * z) j) ∙ ap (λ (x : ℕ). x / 2 ^ j % 2) e

-- the lowest is gone
pub dropped_not : (k m : ℕ) → m < 2 ^ k → 0 < m → Mem (count_trailing_zeros k m) (dropped m) → ⊥
dropped_not zero m l f h = absurd (omega arith)
dropped_not (suc k) m l f h =
    let p = pow-succ' 2 k in
    ⊎_elim
    (λ e. let t = count_trailing_zeros k (m / 2) in
    let g : Mem (suc t) (2 * dropped (m / 2)) = subst (λ (x : ℕ). Mem (suc t) x) (even_half m e f) (subst (λ (x : ℕ). Mem x (dropped m)) (tz_even k m e) h) in
    dropped_not k (m / 2) (omega arith) (omega arith) (sym (high_even (dropped (m / 2)) t) ∙ g))
    (λ o. low_even _ (subst (λ (x : ℕ). Mem 0 x) (odd_half m o) (subst (λ (x : ℕ). Mem x (dropped m)) (tz_odd k m o) h)))
    (two m)

-- the others are kept
pub dropped_other : (k m j : ℕ) → m < 2 ^ k → 0 < m → Mem j m → (j ≡ count_trailing_zeros k m → ⊥) → Mem j (dropped m)
dropped_other zero m j l f h ne = absurd (omega arith)
dropped_other (suc k) m zero l f h ne =
    ⊎_elim (λ e. let y : m / 1 % 2 ≡ 1 = h in absurd (omega arith)) (λ o. absurd (ne (sym (tz_odd k m o)))) (two m)
dropped_other (suc k) m (suc j) l f h ne =
    let p = pow-succ' 2 k in
    let b : Mem j (m / 2) = half_bit m j ∙ h in
    ⊎_elim
    (λ e. let i = dropped_other k (m / 2) j (omega arith) (omega arith) b (λ q. ne (ap suc q ∙ sym (tz_even k m e))) in
    subst (λ (x : ℕ). Mem (suc j) x) (sym (even_half m e f)) (high_even (dropped (m / 2)) j ∙ i))
    (λ o. subst (λ (x : ℕ). Mem (suc j) x) (sym (odd_half m o)) (high_even (bit_and (m / 2) (m / 2)) j ∙ mem_and j (m / 2) (m / 2) b b))
    (two m)

pub dropped_was : (m j : ℕ) → Mem j (dropped m) → Mem j m
dropped_was m j h = mem_and_left j m (m - 1) h
