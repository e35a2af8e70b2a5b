-- Sets by what they have.
use Rattle.std.proofs.Common.{◌≡◌, ℕ, zero, suc, ◌+◌, ◌/◌, ◌%◌, ◌^◌, ◌<◌, Bool, false, not, cond, eqb, get_or, replicate, Decides, sym, refl, ◌∙◌, subst, ⊎_elim, arith}
use mathlib.Core.Bool.{false≢true}
use native.Mathlib.Nat.{pow-succ'}
use lib.Bits.{bit_and, bit_or}
use Rattle.std.proofs.lemmas.Bool.{cases_lt, cases_eq, cond_both}
use Rattle.std.proofs.lemmas.Bool.Decides.{Decides-eqb, Decides-not, Decides-like, not_from_Decides}
use Rattle.rules.specs.Semantics.{Mem}
use Rattle.rules.proofs.Bitwise.{mem_and, mem_and_left, mem_and_right, mem_or_left, mem_or_right, mem_or_cases, mem_one, mem_one_is, not_in_zero, same_members, below_pow, half_bit, two}
use Rattle.steps.specs.Parts.{SetOf}

-- For a loop that gathers a set: it has those of the first i that are wanted, and no other.
abbrev pub First : ℕ → (ℕ → Type 0) → ℕ → Type 0
First i wanted b = (b < i) × wanted b

pub set_start : {wanted : ℕ → Type 0} → SetOf 0 (First 0 wanted)
set_start = record { all = λ b w. absurd (let l = w.0 in omega arith); only = λ b h. absurd (not_in_zero b h) }

-- a set with one more, or as it was
pub set_add : {was wanted : ℕ → Type 0} {m : ℕ} (i v : ℕ) (t : Bool) → ((b : ℕ) → was b → wanted b) → ((b : ℕ) → wanted b → (b ≡ i → ⊥) → was b) → Decides t (wanted i) → SetOf m was → v ≡ cond t (bit_or m (2 ^ i)) m → SetOf v wanted
set_add {was} {wanted} {m} i v t f g d s e = subst (λ (x : ℕ). SetOf x wanted) (sym e) (cond_both t (bit_or m (2 ^ i)) m (λ (x : ℕ). SetOf x wanted)
    (λ yes. record {
      all = λ b w. ⊎_elim (λ q. mem_or_right b m (2 ^ i) (subst (λ (c : ℕ). Mem c (2 ^ i)) (sym q) (mem_one i))) (λ q. mem_or_left b m (2 ^ i) (s.all b (g b w q))) (cases_eq b i);
      only = λ b h. ⊎_elim (λ k. f b (s.only b k)) (λ k. subst wanted (sym (mem_one_is i b k)) (d.0 yes)) (mem_or_cases b m (2 ^ i) h);
    })
    (λ no. record {
      all = λ b w. s.all b (g b w (λ q. not_from_Decides t d no (subst wanted q w)));
      only = λ b h. f b (s.only b h);
    }))

pub set_more : {wanted : ℕ → Type 0} {m : ℕ} (i v : ℕ) (t : Bool) → Decides t (wanted i) → SetOf m (First i wanted) → v ≡ cond t (bit_or m (2 ^ i)) m → SetOf v (First (i + 1) wanted)
set_more {wanted} i v t d s e = set_add i v t
    (λ b w. (let l = w.0 in omega arith, w.1))
    (λ b w q. (let l = w.0 in ⊎_elim (λ k. k) (λ k. absurd (q (omega arith))) (cases_lt b i), w.1))
    (λ x. (omega arith, d.0 x), λ w. d.1 w.1) s e

pub set_skip : {wanted : ℕ → Type 0} {m : ℕ} (i : ℕ) → (wanted i → ⊥) → SetOf m (First i wanted) → SetOf m (First (i + 1) wanted)
set_skip {m = m} i f s = set_more i m false (λ e. absurd (false≢true e), λ w. absurd (f w)) s refl

-- the same set, said otherwise
pub set_same : {was wanted : ℕ → Type 0} {m : ℕ} → ((b : ℕ) → was b → wanted b) → ((b : ℕ) → wanted b → was b) → SetOf m was → SetOf m wanted
set_same f g s = record { all = λ b w. s.all b (g b w); only = λ b h. f b (s.only b h) }

-- sets of the same are equal
pub set_unique : {wanted : ℕ → Type 0} {m k : ℕ} → SetOf m wanted → SetOf k wanted → m ≡ k
set_unique {m} {k} s t = same_members m k (λ a h. t.all a (s.only a h)) (λ a h. s.all a (t.only a h))

-- a set is empty, or has some member
pub empty_zero : (m : ℕ) → ((a : ℕ) → Mem a m → ⊥) → m ≡ 0
empty_zero m f = same_members m 0 (λ a h. absurd (f a h)) (λ a h. absurd (not_in_zero a h))

pub some_member : (m : ℕ) → (m ≡ 0 → ⊥) → (a : ℕ) × Mem a m
some_member m f = search_up m m (below_pow m) f
  where
    search_up : (k m : ℕ) → m < 2 ^ k → (m ≡ 0 → ⊥) → (a : ℕ) × Mem a m
    search_up zero m l f = absurd (f (omega arith))
    search_up (suc k) m l f =
        let p = pow-succ' 2 k in
        let further = search_up k (m / 2) in
        ⊎_elim
        (λ z. let w = further (omega arith) (λ e. f (omega arith)) in (suc w.0, sym (half_bit m w.0) ∙ w.1))
        (λ o. (0, (let e : m / 1 % 2 ≡ 1 = omega arith in e)))
        (two m)

-- whether two sets have some member in common
pub decides_meet : (x y : ℕ) → Decides (not (eqb (bit_and x y) 0)) ((j : ℕ) × Mem j x × Mem j y)
decides_meet x y = Decides-like _
    (λ f. let w = some_member (bit_and x y) f in (w.0, mem_and_left w.0 x y w.1, mem_and_right w.0 x y w.1))
    (λ w e. not_in_zero w.0 (subst (Mem w.0) e (mem_and w.0 x y w.1 w.2)))
    (Decides-not (eqb (bit_and x y) 0) (Decides-eqb (bit_and x y) 0))

pub zero_at : (n i : ℕ) → ◌≡◌ {A = ℕ} (get_or (replicate n 0) i 0) 0
zero_at zero i = refl
zero_at (suc n) zero = refl
zero_at (suc n) (suc i) = zero_at n i
