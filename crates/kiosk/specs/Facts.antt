-- The slip's facts.
use Rattle.std.specs.Prelude.{◌≡◌, ℕ, zero, suc, ◌<◌, ◌≤◌, true, false, List, [], ◌∷◌, ◌++◌, map, length, Some, None, nat_eq, refl}
use Rattle.std.proofs.Common.{sym, ap, ◌∙◌, ⊎_elim, arith}
use Rattle.std.proofs.lemmas.List.{get_or_append_left, get_or_push, get_or-map, length-map, length_push, length-set}
use Rattle.std.specs.List.{list_any}
use Rattle.std.proofs.lemmas.List.Folds.{Any-from_list_any}
use Rattle.std.proofs.lemmas.Map.Made.{IsDistinct-from_AllPairs}
use Rattle.std.proofs.lemmas.Map.Steps.{length-le_from_distinct_below}
use Rattle.std.proofs.lemmas.Bool.Decides.{Decides-eqb}
use Rattle.std.proofs.lemmas.Bool.{ne_eqb, eq-eqb, cases_lt, eqb-true}
use Rattle.rules.specs.declared.rule.Sign.{Sign}
use Rattle.kiosk.specs.declared.slip.Fact.{Fact}
use Rattle.kiosk.specs.Slip.{no_fact, re_signed, Finds, Known, Apart}
use Rattle.kiosk.specs.Book.{names, noted}

pub not_named : (fs : List Fact) (a : ℕ) → Finds fs a None → names fs a ≡ false
not_named [] a h = refl
not_named (f ∷ fs) a h =
    let e : nat_eq f.matter a ≡ false = ne_eqb f.matter a (λ q. h 0 (omega arith) q) in
    rw e (not_named fs a (λ k l q. h (suc k) (omega arith) q))

pub named : (fs : List Fact) (a i : ℕ) → Finds fs a (Some i) → names fs a ≡ true
named [] a i h = absurd (omega (arith, h.0))
named (f ∷ fs) a zero h = let e : nat_eq f.matter a ≡ true = eq-eqb f.matter a h.1 in rw e
named (f ∷ fs) a (suc i) h =
    let e : nat_eq f.matter a ≡ false = ne_eqb f.matter a (λ q. h.2 0 (omega arith) q) in
    rw e (named fs a i (omega (arith, h.0), h.1, λ k l q. h.2 (suc k) (omega arith) q))

pub noted_found : (fs : List Fact) (a i : ℕ) (s : Sign) → Finds fs a (Some i) → noted fs a s ≡ re_signed fs i s
noted_found [] a i s h = absurd (omega (arith, h.0))
noted_found (f ∷ fs) a zero s h = let e : nat_eq f.matter a ≡ true = eq-eqb f.matter a h.1 in rw e
noted_found (f ∷ fs) a (suc i) s h =
    let e : nat_eq f.matter a ≡ false = ne_eqb f.matter a (λ q. h.2 0 (omega arith) q) in
    rw e (ap (λ (gs : List Fact). f ∷ gs) (noted_found fs a i s (omega (arith, h.0), h.1, λ k l q. h.2 (suc k) (omega arith) q)))

pub noted_new : (fs : List Fact) (a : ℕ) (s : Sign) → Finds fs a None → noted fs a s ≡ fs ++ (record { matter = a; sign = s } ∷ [])
noted_new [] a s h = refl
noted_new (f ∷ fs) a s h =
    let e : nat_eq f.matter a ≡ false = ne_eqb f.matter a (λ q. h 0 (omega arith) q) in
    rw e (ap (λ (gs : List Fact). f ∷ gs) (noted_new fs a s (λ k l q. h (suc k) (omega arith) q)))

pub length_re_signed : (fs : List Fact) (i : ℕ) (s : Sign) → length (re_signed fs i s) ≡ length fs
length_re_signed fs i s = length-set fs i _

pub known_push : (n : ℕ) (fs : List Fact) (x : Fact) → Known n fs → x.matter < n → Known n (fs ++ (x ∷ []))
known_push n fs x h lt k l =
    let e = length_push fs x in
    ⊎_elim (λ a. rw (get_or_append_left fs (x ∷ []) no_fact k a) (h k a))
    (λ b. let g : length fs ≡ k = omega arith in rw (get_or_push fs x no_fact k g) lt)
    (cases_lt k (length fs))

pub apart_push : (fs : List Fact) (x : Fact) → Apart fs → Finds fs x.matter None → Apart (fs ++ (x ∷ []))
apart_push fs x h new i j ij l q =
    let e = length_push fs x in
    let il : i < length fs = omega arith in
    let f = ap (λ (y : Fact). y.matter) (get_or_append_left fs (x ∷ []) no_fact i il) in
    ⊎_elim (λ a. h i j ij a (sym f ∙ q ∙ ap (λ (y : Fact). y.matter) (get_or_append_left fs (x ∷ []) no_fact j a)))
    (λ b. let g : length fs ≡ j = omega arith in new i il (sym f ∙ q ∙ ap (λ (y : Fact). y.matter) (get_or_push fs x no_fact j g)))
    (cases_lt j (length fs))

-- facts on matters below n, no two on one, are at most n
pub few_facts : (n : ℕ) (fs : List Fact) → Known n fs → Apart fs → length fs ≤ n
few_facts n fs known apart =
    let matter : Fact → ℕ = λ f. f.matter in
    let ms = map matter fs in
    let e = length-map fs matter in
    let distinct = IsDistinct-from_AllPairs {eq = nat_eq} Decides-eqb ms
    (λ i j d ij l q. apart i j ij (omega (arith, e)) (sym (get_or-map matter fs i no_fact d (omega (arith, e))) ∙ q ∙ get_or-map matter fs j no_fact d (omega (arith, e)))) in
    let below : (q : ℕ) → list_any (nat_eq q) ms ≡ true → q < n = λ q t.
    let p = Any-from_list_any (nat_eq q) ms t in
    let l : p.0 < length fs = omega (arith, e, p.2) in
    omega (arith, known p.0 l, eqb-true q p.1 p.4, p.3, get_or-map matter fs p.0 no_fact p.1 l) in
    omega (arith, e, length-le_from_distinct_below ms n distinct below)

-- so a new fact finds one of n places
pub room_for : (n : ℕ) (fs : List Fact) (x : Fact) → Known n fs → Apart fs → x.matter < n → Finds fs x.matter None → length fs < n
room_for n fs x k a lt new =
    let e = few_facts n (fs ++ (x ∷ [])) (known_push n fs x k lt) (apart_push fs x a new) in
    omega (arith, e, length_push fs x)
