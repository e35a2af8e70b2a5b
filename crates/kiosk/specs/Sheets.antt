-- The sheets of a rack's rules, after each call.
use Rattle.std.specs.Prelude.{◌≡◌, ℕ, zero, suc, ◌+◌, ◌-◌, ◌<◌, ◌≤◌, Bool, true, false, ◌&&◌, ltb, leb, List, [], ◌∷◌, ◌++◌, map, length, drop, filter, ◌==◌, ◌≢◌, nat_eq, nat_le, nat_lt, slice_index_or, refl}
use Rattle.std.proofs.Common.{sym, ap, subst, ◌∙◌, ⊎_elim, arith, add-one}
use Rattle.std.proofs.lemmas.List.{length-map, append-nil, drop-append-le, drop_all, map-append}
use Rattle.std.proofs.lemmas.List.FromFn.{length-map-range_with_len, map-range_with_len_more}
use Rattle.std.proofs.lemmas.List.Elements.{filter-append}
use Rattle.std.proofs.lemmas.Bool.{lt-ltb, le-ltb, ne_eqb, eq-eqb, cases_lt, and_left, and_right, lt-leb}
use Rattle.rules.specs.declared.rule.Rule.{Rule}
use Rattle.racks.specs.Meaning.{Throughout}
use Rattle.rules.specs.Parts.{no_rule}
use Rattle.laying.specs.Laying.{under}
use Rattle.laying.specs.Laid.{used_all}
use Rattle.kiosk.specs.Book.{Sheet, Clause, total, on_top, without_top}
use Rattle.kiosk.specs.Standing.{plain, on, sheet_of, sheets_of}
use Rattle.kiosk.specs.Kept.{kept_nothing, kept_same, kept_split, bit, same_counted}

pub length_sheets : (n : ℕ) (xs : List Rule) → length (sheets_of n xs) ≡ n
length_sheets n xs = length-map-range_with_len (sheet_of xs) 0 n

pub sheets_more : (n : ℕ) (xs : List Rule) → sheets_of (n + 1) xs ≡ sheets_of n xs ++ (sheet_of xs n ∷ [])
sheets_more n xs = map-range_with_len_more (sheet_of xs) 0 n n (omega arith)

pub sheets_begun : (n : ℕ) (xs : List Rule) → Throughout (λ x. x.sheet < n) xs → sheets_of (n + 1) xs ≡ sheets_of n xs ++ ([] ∷ [])
sheets_begun n xs h =
    let e = kept_nothing no_rule (on n) xs (λ k l. ne_eqb _ n (λ q. let b = h k l in omega arith)) in
    sheets_more n xs ∙ ap (λ (ys : List Rule). sheets_of n xs ++ (map plain ys ∷ [])) e

on_top_last : (ss : List Sheet) (s : Sheet) (x : Clause) → on_top (ss ++ (s ∷ [])) x ≡ ss ++ ((s ++ (x ∷ [])) ∷ [])
on_top_last [] s x = refl
on_top_last (t ∷ []) s x = refl
on_top_last (t ∷ (u ∷ ss)) s x = ap (λ (rs : List Sheet). t ∷ rs) (on_top_last (u ∷ ss) s x)

without_top_last : (ss : List Sheet) (s : Sheet) → without_top (ss ++ (s ∷ [])) ≡ ss
without_top_last [] s = refl
without_top_last (t ∷ []) s = refl
without_top_last (t ∷ (u ∷ ss)) s = ap (λ (rs : List Sheet). t ∷ rs) (without_top_last (u ∷ ss) s)

sheet_other : (xs : List Rule) (x : Rule) (i : ℕ) → (x.sheet ≢ i) → sheet_of (xs ++ (x ∷ [])) i ≡ sheet_of xs i
sheet_other xs x i ne =
    let e : nat_eq x.sheet i ≡ false = ne_eqb x.sheet i ne in
    ap (map plain) (filter-append (on i) xs (x ∷ []) ∙ rw e (append-nil (filter (on i) xs)))

sheet_same : (xs : List Rule) (x : Rule) (i : ℕ) → x.sheet ≡ i → sheet_of (xs ++ (x ∷ [])) i ≡ sheet_of xs i ++ (plain x ∷ [])
sheet_same xs x i q =
    let e : nat_eq x.sheet i ≡ true = eq-eqb x.sheet i q in
    ap (map plain) (filter-append (on i) xs (x ∷ [])) ∙ rw e (map-append plain (filter (on i) xs) (x ∷ []))

laid_above : (n : ℕ) (xs : List Rule) (x : Rule) → 0 < n → x.sheet ≡ n - 1 → sheets_of n (xs ++ (x ∷ [])) ≡ on_top (sheets_of n xs) (plain x)
laid_above n xs x pos e =
    let m = n - 1 in
    let f : n - 1 + 1 ≡ n = omega arith in
    let step : sheets_of (m + 1) (xs ++ (x ∷ [])) ≡ on_top (sheets_of (m + 1) xs) (plain x) =
    sheets_more m (xs ++ (x ∷ []))
    ∙ ap (λ (ss : List Sheet). ss ++ (sheet_of (xs ++ (x ∷ [])) m ∷ [])) (same_counted (sheet_of (xs ++ (x ∷ []))) (sheet_of xs) 0 m (λ i l u. sheet_other xs x i (λ q. omega arith)))
    ∙ ap (λ (s : Sheet). sheets_of m xs ++ (s ∷ [])) (sheet_same xs x m e)
    ∙ sym (on_top_last (sheets_of m xs) (sheet_of xs m) (plain x))
    ∙ ap (λ (ss : List Sheet). on_top ss (plain x)) (sym (sheets_more m xs)) in
    subst (λ (k : ℕ). sheets_of k (xs ++ (x ∷ [])) ≡ on_top (sheets_of k xs) (plain x)) f step

pub sheets_laid : (n : ℕ) (xs : List Rule) (x : Rule) → x.sheet ≡ n - 1 → sheets_of n (xs ++ (x ∷ [])) ≡ on_top (sheets_of n xs) (plain x)
sheets_laid zero xs x e = refl
sheets_laid (suc n) xs x e = laid_above (suc n) xs x (omega arith) e

kept_kept : (m i : ℕ) (xs : List Rule) → i < m → filter (on i) (filter (under m) xs) ≡ filter (on i) xs
kept_kept m i [] l = refl
kept_kept m i (x ∷ xs) l =
    let r = kept_kept m i xs l in
    ⊎_elim (λ h. let e : ltb x.sheet m ≡ true = lt-ltb x.sheet m h in rw (e, r))
    (λ h. let e : ltb x.sheet m ≡ false = le-ltb x.sheet m h in let n : nat_eq x.sheet i ≡ false = ne_eqb x.sheet i (λ q. omega arith) in rw (e, n) r)
    (cases_lt x.sheet m)

withdrawn_above : (n : ℕ) (xs : List Rule) → 0 < n → sheets_of (n - 1) (filter (under (n - 1)) xs) ≡ without_top (sheets_of n xs)
withdrawn_above n xs pos =
    let m = n - 1 in
    let f : n - 1 + 1 ≡ n = omega arith in
    let g : sheets_of m (filter (under m) xs) ≡ without_top (sheets_of (m + 1) xs) =
    same_counted (sheet_of (filter (under m) xs)) (sheet_of xs) 0 m (λ i l u. ap (map plain) (kept_kept m i xs (omega arith)))
    ∙ sym (without_top_last (sheets_of m xs) (sheet_of xs m))
    ∙ ap without_top (sym (sheets_more m xs)) in
    subst (λ (k : ℕ). sheets_of (n - 1) (filter (under (n - 1)) xs) ≡ without_top (sheets_of k xs)) f g

pub sheets_withdrawn : (n : ℕ) (xs : List Rule) → sheets_of (n - 1) (filter (under (n - 1)) xs) ≡ without_top (sheets_of n xs)
sheets_withdrawn zero xs = refl
sheets_withdrawn (suc n) xs = withdrawn_above (suc n) xs (omega arith)

total_append : (ss rs : List Sheet) → total (ss ++ rs) ≡ total ss + total rs
total_append [] rs = omega arith
total_append (s ∷ ss) rs = omega (arith, total_append ss rs)

-- on a sheet from f on and below n
abbrev between : ℕ → ℕ → Rule → Bool
between f n x = nat_le f x.sheet && nat_lt x.sheet n

outside : (f n s : ℕ) → n < f → (nat_le f s && nat_lt s (n + 1)) ≡ false
outside f n s h = ⊎_elim (λ a. and_left (nat_le f s) (nat_lt s (n + 1)) (lt-leb f s a)) (λ a. and_right (nat_le f s) (nat_lt s (n + 1)) (le-ltb s (n + 1) (omega arith))) (cases_lt s f)

one_more : (f n s : ℕ) → f ≤ n → bit (nat_le f s && nat_lt s (n + 1)) ≡ bit (nat_le f s && nat_lt s n) + bit (s == n)
one_more f n s h = grind arith

and_true : (b : Bool) → (b && true) ≡ b
and_true true = refl
and_true false = refl

used_between : (f n : ℕ) (xs : List Rule) → total (drop f (sheets_of n xs)) ≡ length (filter (between f n) xs)
used_between f zero xs =
    ap total (drop_all f [] (omega arith))
    ∙ sym (ap length (kept_nothing no_rule (between f 0) xs (λ k l. and_right (nat_le f (slice_index_or xs k no_rule).sheet) (nat_lt (slice_index_or xs k no_rule).sheet 0) (le-ltb (slice_index_or xs k no_rule).sheet 0 (omega arith)))))
used_between f (suc n) xs =
    let r = used_between f n xs in
    subst (λ (k : ℕ). total (drop f (sheets_of k xs)) ≡ length (filter (between f k) xs)) (add-one n)
    (⊎_elim
    (λ h. ap total (drop_all f (sheets_of (n + 1) xs) (omega (arith, length_sheets (n + 1) xs)))
    ∙ sym (ap length (kept_nothing no_rule (between f (n + 1)) xs (λ k l. outside f n (slice_index_or xs k no_rule).sheet h))))
    (λ h. ap (λ (ss : List Sheet). total (drop f ss)) (sheets_more n xs)
    ∙ ap total (drop-append-le f (sheets_of n xs) (sheet_of xs n ∷ []) (omega (arith, length_sheets n xs)))
    ∙ omega (arith, r, total_append (drop f (sheets_of n xs)) (sheet_of xs n ∷ []), length-map (filter (on n) xs) plain, kept_split (between f (n + 1)) (between f n) (on n) xs (λ x. one_more f n x.sheet h)))
    (cases_lt n f))

pub used_sheets : (f n : ℕ) (xs : List Rule) → Throughout (λ x. x.sheet < n) xs → total (drop f (sheets_of n xs)) ≡ length (filter (λ x. leb f x.sheet) xs)
used_sheets f n xs h = used_between f n xs ∙ ap length (kept_same no_rule (between f n) (λ x. leb f x.sheet) xs (λ k l. ap (λ (c : Bool). nat_le f (slice_index_or xs k no_rule).sheet && c) (lt-ltb (slice_index_or xs k no_rule).sheet n (h k l)) ∙ and_true (nat_le f (slice_index_or xs k no_rule).sheet)))

pub total_sheets : (n : ℕ) (xs : List Rule) → Throughout (λ x. x.sheet < n) xs → total (sheets_of n xs) ≡ length xs
total_sheets n xs h = used_sheets 0 n xs h ∙ used_all (record { matters = 0; sheets = 0; rules = xs })
