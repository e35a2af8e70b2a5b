-- A kiosk shows what its book shows.
use Rattle.std.specs.Prelude.{◌≡◌, ℕ, zero, suc, ◌+◌, ◌<◌, Bool, true, false, List, [], ◌∷◌, ◌++◌, map, length, filter, ◌==◌, nat_eq, nat_lt, slice_index_or, refl}
use Rattle.std.proofs.Common.{sym, ap, subst, ◌∙◌, ⊎_elim, append_assoc, arith, add-one}
use Rattle.std.proofs.lemmas.List.{append-nil, length-append}
use Rattle.std.proofs.lemmas.Bool.{lt-ltb, le-ltb, ne_eqb, eq-eqb, cases_Bool, cases_order, eqb-true}
use Rattle.rules.specs.declared.rule.Rule.{Rule}
use Rattle.racks.specs.Meaning.{Meaning, Kept, Throughout, Rising, shaped}
use Rattle.rules.specs.Parts.{no_rule}
use Rattle.laying.specs.Laying.{Ground, under}
use Rattle.kiosk.specs.declared.kiosk.Kiosk.{Kiosk}
use Rattle.kiosk.specs.declared.slip.Fact.{Fact}
use Rattle.kiosk.specs.Book.{Sheet}
use Rattle.kiosk.specs.Slip.{fact_rule, matters_in}
use Rattle.kiosk.specs.Standing.{plain, on, on_sheet, sheet_of, sheets_of, numbered, fact_clause, slip_of, booked, book_of, kiosk_seated, kiosk_meaning, shown, topped, seated}
use Rattle.kiosk.specs.Kept.{kept_nothing}
use Rattle.kiosk.specs.Steps.{seated_parts}
use Rattle.kiosk.specs.Topped.{topped_kept}
use Rattle.kiosk.specs.Sheets.{length_sheets, sheets_more}

numbered_last : (i : ℕ) (ss : List Sheet) (s : Sheet) → numbered i (ss ++ (s ∷ [])) ≡ numbered i ss ++ map (on_sheet (i + length ss)) s
numbered_last i [] s = let e : i ≡ i + 0 = omega arith in append-nil (map (on_sheet i) s) ∙ ap (λ (j : ℕ). map (on_sheet j) s) e
numbered_last i (t ∷ ss) s =
    let e : i + 1 + length ss ≡ i + length (t ∷ ss) = omega arith in
    ap (λ (rs : List Rule). map (on_sheet i) t ++ rs) (numbered_last (i + 1) ss s ∙ ap (λ (j : ℕ). numbered (i + 1) ss ++ map (on_sheet j) s) e)
    ∙ sym (append_assoc (map (on_sheet i) t) (numbered (i + 1) ss) (map (on_sheet (i + length (t ∷ ss))) s))

-- a sheet's clauses under its number are its rules again
back_on : (n : ℕ) (xs : List Rule) → map (on_sheet n) (sheet_of xs n) ≡ filter (on n) xs
back_on n [] = refl
back_on n (x ∷ xs) =
    let r = back_on n xs in
    ⊎_elim
    (λ t. let e : x.sheet ≡ n = eqb-true x.sheet n t in
    let q : on_sheet n (plain x) ≡ x = ap (λ (j : ℕ). on_sheet j (plain x)) (sym e) in
    rw t (ap (λ (y : Rule). y ∷ map (on_sheet n) (sheet_of xs n)) q ∙ ap (λ (rs : List Rule). x ∷ rs) r))
    (λ t. rw t r)
    (cases_Bool (x.sheet == n))

rising_tail : (x : Rule) (xs : List Rule) → Rising (x ∷ xs) → Rising xs
rising_tail x xs r i j ij l = r (suc i) (suc j) (omega arith) (omega arith)

rising_split : (n : ℕ) (xs : List Rule) → Rising xs → filter (under (n + 1)) xs ≡ filter (under n) xs ++ filter (on n) xs
rising_split n [] r = refl
rising_split n (x ∷ xs) r =
    let h = rising_split n xs (rising_tail x xs r) in
    ⊎_elim
    (λ e. let a : nat_lt x.sheet (n + 1) ≡ true = lt-ltb x.sheet (n + 1) (omega arith) in
    let b : nat_lt x.sheet n ≡ false = le-ltb x.sheet n (omega arith) in
    let c : nat_eq x.sheet n ≡ true = eq-eqb x.sheet n e in
    let z : filter (under n) xs ≡ [] = kept_nothing no_rule (under n) xs (λ k l. le-ltb (slice_index_or xs k no_rule).sheet n (omega (arith, r 0 (suc k) (omega arith) (omega arith)))) in
    rw (a, b, c) (ap (λ (rs : List Rule). x ∷ rs) (h ∙ ap (λ (rs : List Rule). rs ++ filter (on n) xs) z) ∙ sym (ap (λ (rs : List Rule). rs ++ (x ∷ filter (on n) xs)) z)))
    (⊎_elim
    (λ e. let a : nat_lt x.sheet (n + 1) ≡ true = lt-ltb x.sheet (n + 1) (omega arith) in
    let b : nat_lt x.sheet n ≡ true = lt-ltb x.sheet n e in
    let c : nat_eq x.sheet n ≡ false = ne_eqb x.sheet n (λ q. omega arith) in
    rw (a, b, c) (ap (λ (rs : List Rule). x ∷ rs) h))
    (λ e. let a : nat_lt x.sheet (n + 1) ≡ false = le-ltb x.sheet (n + 1) (omega arith) in
    let b : nat_lt x.sheet n ≡ false = le-ltb x.sheet n (omega arith) in
    let c : nat_eq x.sheet n ≡ false = ne_eqb x.sheet n (λ q. omega arith) in
    rw (a, b, c) h))
    (cases_order x.sheet n)

numbered_under : (n : ℕ) (xs : List Rule) → Rising xs → numbered 0 (sheets_of n xs) ≡ filter (under n) xs
numbered_under zero xs r = sym (kept_nothing no_rule (under 0) xs (λ k l. le-ltb (slice_index_or xs k no_rule).sheet 0 (omega arith)))
numbered_under (suc n) xs r =
    let h = numbered_under n xs r in
    let e : 0 + length (sheets_of n xs) ≡ n = omega (arith, length_sheets n xs) in
    subst (λ (k : ℕ). numbered 0 (sheets_of k xs) ≡ filter (under k) xs) (add-one n)
    (ap (numbered 0) (sheets_more n xs)
    ∙ numbered_last 0 (sheets_of n xs) (sheet_of xs n)
    ∙ ap (λ (j : ℕ). numbered 0 (sheets_of n xs) ++ map (on_sheet j) (sheet_of xs n)) e
    ∙ ap (λ (rs : List Rule). rs ++ map (on_sheet n) (sheet_of xs n)) h
    ∙ ap (λ (rs : List Rule). filter (under n) xs ++ rs) (back_on n xs)
    ∙ sym (rising_split n xs r))

all_under : (n : ℕ) (xs : List Rule) → Throughout (λ x. x.sheet < n) xs → filter (under n) xs ≡ xs
all_under n [] h = refl
all_under n (x ∷ xs) h =
    let e : nat_lt x.sheet n ≡ true = lt-ltb x.sheet n (h 0 (omega arith)) in
    rw e (ap (λ (rs : List Rule). x ∷ rs) (all_under n xs (λ k l. h (suc k) (omega arith))))

pub numbered_sheets : (m : Meaning) → Kept m → numbered 0 (sheets_of m.sheets m.rules) ≡ m.rules
numbered_sheets m f = numbered_under m.sheets m.rules f.rising ∙ all_under m.sheets m.rules (λ k l. (f.sound k l).0)

facts_on : (n : ℕ) (fs : List Fact) → map (on_sheet n) (map fact_clause fs) ≡ map (fact_rule n) fs
facts_on n [] = refl
facts_on n (f ∷ fs) = ap (λ (rs : List Rule). fact_rule n f ∷ rs) (facts_on n fs)

abbrev parts : ℕ → ℕ → List Rule → Meaning
parts n s xs = record { matters = n; sheets = s; rules = xs }

pub shown_booked : (g : Ground) (b : Bool) (fs : List Fact) → Kept g.meaning → topped b g.meaning fs ≡ shown (booked g (slip_of b fs))
shown_booked g false fs f =
    let m = g.meaning in
    let ss = sheets_of m.sheets m.rules in
    let e : length (ss ++ []) ≡ m.sheets = ap length (append-nil ss) ∙ length_sheets m.sheets m.rules in
    let r : numbered 0 (ss ++ []) ≡ m.rules = ap (numbered 0) (append-nil ss) ∙ numbered_sheets m f in
    sym (ap (λ (k : ℕ). parts m.matters k (numbered 0 (ss ++ []))) e ∙ ap (parts m.matters m.sheets) r)
shown_booked g true fs f =
    let m = g.meaning in
    let ss = sheets_of m.sheets m.rules in
    let top = map fact_clause fs in
    let e : length (ss ++ (top ∷ [])) ≡ m.sheets + 1 = omega (arith, length-append ss (top ∷ []), length_sheets m.sheets m.rules) in
    let q : 0 + length ss ≡ m.sheets = omega (arith, length_sheets m.sheets m.rules) in
    let r : numbered 0 (ss ++ (top ∷ [])) ≡ m.rules ++ map (fact_rule m.sheets) fs =
    numbered_last 0 ss top
    ∙ ap (λ (j : ℕ). numbered 0 ss ++ map (on_sheet j) top) q
    ∙ ap (λ (rs : List Rule). numbered 0 ss ++ rs) (facts_on m.sheets fs)
    ∙ ap (λ (rs : List Rule). rs ++ map (fact_rule m.sheets) fs) (numbered_sheets m f) in
    sym (ap (λ (k : ℕ). parts m.matters k (numbered 0 (ss ++ (top ∷ [])))) e ∙ ap (parts m.matters (m.sheets + 1)) r)

-- A kiosk as a rack

pub kiosk_kept : {R : Type 0} (m : R → Meaning) (k : Kiosk R) → Kept (m k.rack) → Kept (kiosk_meaning m k)
kiosk_kept m k kept =
    let fs = k.slip.facts.items in
    topped_kept (kiosk_seated m k) (m k.rack) (matters_in k.session) fs kept
    (λ e. let p = seated_parts (m k.rack) k.session fs e in (sym (ap matters_in p.0), p.1, p.2)) k.known

pub kiosk_shown : {R : Type 0} (m : R → Meaning) (g : R → Ground) (k : Kiosk R) → (g k.rack).meaning ≡ m k.rack → Kept (m k.rack) → kiosk_meaning m k ≡ shown (book_of g k)
kiosk_shown m g k e kept =
    let fs = k.slip.facts.items in
    ap (λ (x : Meaning). topped (seated (shaped x) k.session fs) x fs) (sym e)
    ∙ shown_booked (g k.rack) (seated (shaped (g k.rack).meaning) k.session fs) fs (subst Kept (sym e) kept)
