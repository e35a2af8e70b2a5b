-- The parts of a set, numbered: what they hold, that they ascend, and that there are no others.
use Rattle.std.proofs.Common.{◌≡◌, ℕ, zero, suc, ◌+◌, ◌*◌, ◌/◌, ◌%◌, ◌^◌, ◌<◌, ◌≤◌, min, eqb, Decides, sym, refl, ap, ◌∙◌, subst, ⊎_elim, add-one, arith, pow_pos}
use native.Mathlib.Nat.{pow-succ'}
use lib.Count.{ones, ones_step}
use Rattle.std.proofs.lemmas.Nat.{shr-shr}
use Rattle.std.proofs.lemmas.Bool.{cases_lt}
use Rattle.std.proofs.lemmas.Bool.Decides.{Decides-eqb, Decides-like}
use Rattle.rules.specs.Semantics.{Mem}
use Rattle.rules.proofs.Bitwise.{half_bit, two, same_members, mem_below, not_in_zero}
use Rattle.steps.specs.Subsets.{rank, part}

rank_suc : (m a : ℕ) → rank m (suc a) ≡ rank m a + m / 2 ^ a % 2
unfolding rank
rank_suc m zero = let e : m % 2 + 0 ≡ 0 + m / 1 % 2 = omega arith in e
rank_suc m (suc a) = let i = rank_suc (m / 2) a in let h = half_bit m a in omega arith

pub rank_more : (m a : ℕ) → rank m (a + 1) ≡ rank m a + m / 2 ^ a % 2
rank_more m a = ap (rank m) (add-one a) ∙ rank_suc m a

pub rank_none : (m : ℕ) → 0 ≡ rank m 0
unfolding rank
rank_none m = refl

pub rank_le : (m a : ℕ) → rank m a ≤ a
unfolding rank
rank_le m zero = omega arith
rank_le m (suc a) = let i = rank_le (m / 2) a in omega arith

part_low : (k m t : ℕ) → part (suc k) m t % 2 ≡ min (m % 2) (t % 2)
unfolding part
part_low k m t = omega arith

part_half : (k m t : ℕ) → part (suc k) m t / 2 ≡ part k (m / 2) (t / 2 ^ (m % 2))
unfolding part
part_half k m t = omega arith

-- a part has a matter of the set if the number has the bit for it
pub part_bit : (k a m t : ℕ) → a < k → part k m t / 2 ^ a % 2 ≡ min (m / 2 ^ a % 2) (t / 2 ^ rank m a % 2)
unfolding rank
part_bit zero a m t l = absurd (omega arith)
part_bit (suc k) zero m t l = let p = part_low k m t in let e : part (suc k) m t / 1 % 2 ≡ min (m / 1 % 2) (t / 1 % 2) = omega arith in e
part_bit (suc k) (suc a) m t l =
    let i = part_bit k a (m / 2) (t / 2 ^ (m % 2)) (omega arith) in
    let h : part (suc k) m t / 2 / 2 ^ a % 2 ≡ part k (m / 2) (t / 2 ^ (m % 2)) / 2 ^ a % 2 = ap (λ (x : ℕ). x / 2 ^ a % 2) (part_half k m t) in
    let p = half_bit (part (suc k) m t) a in
    let q = half_bit m a in
    let s : t / 2 ^ (m % 2) / 2 ^ rank (m / 2) a % 2 ≡ t / 2 ^ (m % 2 + rank (m / 2) a) % 2 = ap (λ (x : ℕ). x % 2) (shr-shr t (m % 2) (rank (m / 2) a)) in
    omega arith

pub part_lt : (k m t : ℕ) → part k m t < 2 ^ k
unfolding part
part_lt zero m t = omega arith
part_lt (suc k) m t = let i = part_lt k (m / 2) (t / 2 ^ (m % 2)) in let p = pow-succ' 2 k in omega arith

pub part_within : (k m t a : ℕ) → Mem a (part k m t) → Mem a m
part_within k m t a h = let l = mem_below k (part k m t) a (part_lt k m t) h in let b = part_bit k a m t l in omega arith

-- the numbers that are left when the lowest matter is out of the set, or in it
even : (m t : ℕ) → m % 2 ≡ 0 → t / 2 ^ (m % 2) ≡ t
even m t e = let p : t / 2 ^ (m % 2) ≡ t / 1 = ap (λ (x : ℕ). t / 2 ^ x) e in omega arith

odd : (m t : ℕ) → m % 2 ≡ 1 → t / 2 ^ (m % 2) ≡ t / 2
odd m t e = ap (λ (x : ℕ). t / 2 ^ x) e

fewer : (m : ℕ) → m % 2 ≡ 0 → 2 ^ ones m ≡ 2 ^ ones (m / 2)
fewer m e = let s = ones_step m in let q : ones m ≡ ones (m / 2) = omega arith in ap (λ (x : ℕ). 2 ^ x) q

doubled : (m : ℕ) → m % 2 ≡ 1 → 2 ^ ones m ≡ 2 * 2 ^ ones (m / 2)
doubled m e = let s = ones_step m in let q : ones m ≡ suc (ones (m / 2)) = omega arith in ap (λ (x : ℕ). 2 ^ x) q ∙ pow-succ' 2 (ones (m / 2))

pub part_rising : (k m t u : ℕ) → m < 2 ^ k → t < u → u < 2 ^ ones m → part k m t < part k m u
unfolding part ones
part_rising zero m t u l h g =
    let z : m ≡ 0 = omega arith in
    let p : 2 ^ ones m ≡ 1 = ap (λ (x : ℕ). 2 ^ ones x) z ∙ refl in
    absurd (omega arith)
part_rising (suc k) m t u l h g =
    let p = pow-succ' 2 k in
    let i = part_rising k (m / 2) in
    ⊎_elim
    (λ e.
    let a = ap (part k (m / 2)) (even m t e) in
    let b = ap (part k (m / 2)) (even m u e) in
    let f = fewer m e in
    let j = i t u (omega arith) h (omega arith) in
    omega arith)
    (λ e.
    let a = ap (part k (m / 2)) (odd m t e) in
    let b = ap (part k (m / 2)) (odd m u e) in
    let f = doubled m e in
    ⊎_elim
    (λ d. let j = i (t / 2) (u / 2) (omega arith) d (omega arith) in omega arith)
    (λ d. let q : t / 2 ≡ u / 2 = omega arith in let j = ap (part k (m / 2)) q in omega arith)
    (cases_lt (t / 2) (u / 2)))
    (two m)

pub part_onto : (k m s : ℕ) → m < 2 ^ k → ((a : ℕ) → Mem a s → Mem a m) → (t : ℕ) × (t < 2 ^ ones m) × (part k m t ≡ s)
unfolding part
part_onto zero m s l f =
    let z : m ≡ 0 = omega arith in
    let e : s ≡ 0 = same_members s 0 (λ a h. subst (Mem a) z (f a h)) (λ a h. absurd (not_in_zero a h)) in
    (0, pow_pos (ones m), sym e)
part_onto (suc k) m s l f =
    let p = pow-succ' 2 k in
    let low : s / 1 % 2 ≡ 1 → m / 1 % 2 ≡ 1 = f 0 in
    let w = part_onto k (m / 2) (s / 2) (omega arith) (λ a h. half_bit m a ∙ f (suc a) (sym (half_bit s a) ∙ h)) in
    let t = w.0 in
    let small = w.1 in
    let is = w.2 in
    ⊎_elim
    (λ e.
    let a = ap (part k (m / 2)) (even m t e) in
    let q = fewer m e in
    (t, omega arith, ⊎_elim (λ z. omega arith) (λ o. let y = low (omega arith) in absurd (omega arith)) (two s)))
    (λ e.
    let v = 2 * t + s % 2 in
    let h : v / 2 ≡ t = omega arith in
    let a = ap (part k (m / 2)) (odd m v e) in
    let b = ap (part k (m / 2)) h in
    let q = doubled m e in
    (v, omega arith, omega arith))
    (two m)

-- what the bit of the number tells
pub decides_part : (m t a i : ℕ) → a < 16 → i ≡ rank m a → Mem a m → Decides (eqb (t / 2 ^ i % 2) 1) (Mem a (part 16 m t))
decides_part m t a i l e h =
    let b = part_bit 16 a m t l in
    let q : t / 2 ^ i % 2 ≡ t / 2 ^ rank m a % 2 = ap (λ (x : ℕ). t / 2 ^ x % 2) e in
    Decides-like _ (λ o. omega arith) (λ o. omega arith) (Decides-eqb (t / 2 ^ i % 2) 1)

pub rank_with : (m a i : ℕ) → i ≡ rank m a → Mem a m → i + 1 ≡ rank m (a + 1)
rank_with m a i e h = let r = rank_more m a in omega arith

pub rank_without : (m a i : ℕ) → i ≡ rank m a → (Mem a m → ⊥) → i ≡ rank m (a + 1)
rank_without m a i e f = let r = rank_more m a in ⊎_elim (λ z. omega arith) (λ o. absurd (f o)) (two (m / 2 ^ a))
