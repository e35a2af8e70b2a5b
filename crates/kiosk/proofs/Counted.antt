-- How many facts of a slip are on one matter, and on the matters below a number.
use Rattle.std.specs.Prelude.{◌≡◌, ℕ, zero, suc, ◌+◌, ◌≤◌, true, ltb, List, [], ◌∷◌, length, filter, ◌==◌, nat_eq, nat_lt, slice_index_or, refl}
use Rattle.std.proofs.Common.{sym, ap, subst, ◌∙◌, ⊎_elim, arith, add-one}
use Rattle.std.proofs.lemmas.Bool.{lt-ltb, le-ltb, ne_eqb, cases_Bool, eqb-true}
use Rattle.kiosk.specs.declared.slip.Fact.{Fact}
use Rattle.kiosk.specs.Slip.{no_fact, Known, Apart}
use Rattle.kiosk.specs.Kept.{kept_nothing, kept_split, bit}

-- no two are on one matter
pub one_kept : (a : ℕ) (fs : List Fact) → Apart fs → length (filter (λ f. nat_eq f.matter a) fs) ≤ 1
one_kept a [] h = omega arith
one_kept a (f ∷ fs) h =
    let r = one_kept a fs (λ i j ij l q. h (suc i) (suc j) (omega arith) (omega arith) q) in
    ⊎_elim
    (λ t. let m : f.matter ≡ a = eqb-true f.matter a t in
    let z = kept_nothing no_fact (λ f. nat_eq f.matter a) fs (λ k l. ne_eqb (slice_index_or fs k no_fact).matter a (λ q. h 0 (suc k) (omega arith) (omega arith) (m ∙ sym q))) in
    rw (t, z) (omega arith))
    (λ t. rw t r)
    (cases_Bool (f.matter == a))

-- so at most n are on the matters below n
pub below_kept : (n : ℕ) (fs : List Fact) → Apart fs → length (filter (λ f. ltb f.matter n) fs) ≤ n
below_kept zero fs h = rw (kept_nothing no_fact (λ f. ltb f.matter 0) fs (λ k l. le-ltb (slice_index_or fs k no_fact).matter 0 (omega arith))) (omega arith)
below_kept (suc n) fs h =
    let r = below_kept n fs h in
    subst (λ (k : ℕ). length (filter (λ f. ltb f.matter k) fs) ≤ k) (add-one n)
    (omega (arith, r, one_kept n fs h, kept_split (λ f. ltb f.matter (n + 1)) (λ f. ltb f.matter n) (λ f. nat_eq f.matter n) fs (λ f. next n f.matter)))
  where
    next : (n m : ℕ) → bit (nat_lt m (n + 1)) ≡ bit (nat_lt m n) + bit (m == n)
    next n m = grind arith

-- and those are all, on a slip of known matters
pub all_kept : (n : ℕ) (fs : List Fact) → Known n fs → filter (λ f. ltb f.matter n) fs ≡ fs
all_kept n [] h = refl
all_kept n (f ∷ fs) h =
    let e : ltb f.matter n ≡ true = lt-ltb f.matter n (h 0 (omega arith)) in
    rw e (ap (λ (gs : List Fact). f ∷ gs) (all_kept n fs (λ k l. h (suc k) (omega arith))))
