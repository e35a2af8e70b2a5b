-- Packing is unambiguous: bytes are the file of one n and one list of sheets, or are refused by one number.
use Rattle.std.proofs.Common.{◌≡◌, ℕ, ◌+◌, ◌*◌, ◌/◌, ◌%◌, ◌<◌, ◌≤◌, true, false, List, [], ◌∷◌, ◌++◌, length, Some, None, sym, refl, ap, ◌∙◌, subst, ⊎_elim, div-add-mod', arith}
use Rattle.std.specs.List.{AllByRecursion}
use Rattle.std.proofs.lemmas.List.{length-append, append_assoc, append-nil, append_cancel_left, nil_from_length}
use Rattle.std.proofs.lemmas.Bool.{le-ltb, ne_eqb, cond-false, cases_lt}
use Rattle.rules.specs.declared.record.Record.{Record}
use Rattle.rules.specs.Records.{good}
use Rattle.rules.specs.Refusals.{first_met}
use Rattle.rules.proofs.Refusing.{none≢some}
use Rattle.racks.specs.Packing.{packed_rules, packed_sheet, packed_sheets, count, File, stated, record_at, records, some_bad, head_table, sheet_table, Reaches, Refused, in_head, in_sheet, at_end}
use Rattle.racks.specs.Filing.{Unambiguous}
use Rattle.racks.proofs.SheetReading.{sheet_met}

number_back : (v w : ℕ) → v / 256 ≡ w / 256 → v % 256 ≡ w % 256 → v ≡ w
number_back v w d m = omega arith

same_record : (x y : Record) → x.head ≡ y.head → x.sign ≡ y.sign → x.yes ≡ y.yes → x.no ≡ y.no → x ≡ y
same_record x y h s p q = λ i. record { head = h i; sign = s i; yes = p i; no = q i }

rules_back : (xs ys : List Record) (r t : List ℕ) → length xs ≡ length ys → packed_rules xs ++ r ≡ packed_rules ys ++ t → xs ≡ ys
rules_back [] [] r t l e = refl
rules_back [] (y ∷ ys) r t l e = absurd (omega arith)
rules_back (x ∷ xs) [] r t l e = absurd (omega arith)
rules_back (x ∷ xs) (y ∷ ys) r t l e =
    let f = same_record x y (cc) (cc) (number_back x.yes y.yes (cc) (cc)) (number_back x.no y.no (cc) (cc)) in
    let h = rules_back xs ys r t (omega arith) (cc) in cc

sheet_back : (xs ys : List Record) (r t : List ℕ) → packed_sheet xs ++ r ≡ packed_sheet ys ++ t → xs ≡ ys
sheet_back xs ys r t e =
    let n = number_back (6 * length xs) (6 * length ys) (cc) (cc) in
    rules_back xs ys r t (omega arith) (cc)

-- what bytes go on with after some of the sheets that they have
record Rest (n : ℕ) (some all : List (List Record)) (rest end : List ℕ) : Type 0 where
  pub more : List (List Record)
  pub bytes_are : rest ≡ packed_sheets more ++ end
  pub all_are : all ≡ some ++ more
  pub so_many : length all ≡ length some + length more
  pub all_good : AllByRecursion (AllByRecursion (λ x. good n x ≡ true)) more
  pub few_rules : count all ≡ count some + count more

sheets_back : (n : ℕ) (some all : List (List Record)) (rest end : List ℕ) → length some ≤ length all → AllByRecursion (AllByRecursion (λ x. good n x ≡ true)) all → packed_sheets some ++ rest ≡ packed_sheets all ++ end → Rest n some all rest end
sheets_back n [] all rest end l a e = record { more = all; bytes_are = e; all_are = refl; so_many = omega arith; all_good = a; few_rules = omega arith }
sheets_back n (xs ∷ some) [] rest end l a e = absurd (omega arith)
sheets_back n (xs ∷ some) (ys ∷ all) rest end l a e =
    let f : packed_sheet xs ++ (packed_sheets some ++ rest) ≡ packed_sheet ys ++ (packed_sheets all ++ end) = sym (append_assoc (packed_sheet xs) (packed_sheets some) rest) ∙ e ∙ append_assoc (packed_sheet ys) (packed_sheets all) end in
    let g = sheet_back xs ys (packed_sheets some ++ rest) (packed_sheets all ++ end) f in
    let k = subst (λ (zs : List Record). packed_sheet zs ++ (packed_sheets some ++ rest) ≡ packed_sheet ys ++ (packed_sheets all ++ end)) g f in
    let r = sheets_back n some all rest end (omega arith) a.1 (append_cancel_left (packed_sheet ys) _ _ k) in
    record {
      more = r.more;
      bytes_are = r.bytes_are;
      all_are = let h = r.all_are in cc;
      so_many = let m = r.so_many in omega arith;
      all_good = r.all_good;
      few_rules = let m = r.few_rules in let h = ap length g in omega arith;
    }

-- a packed sheet of good records that fit in is refused for nothing
records_back : (xs : List Record) (r : List ℕ) → records (length xs) (packed_rules xs ++ r) ≡ xs
records_back [] r = refl
records_back (x ∷ xs) r =
    let h = records_back xs r in
    let f = same_record (record_at (packed_rules (x ∷ xs) ++ r) 0) x refl refl (div-add-mod' x.yes 256) (div-add-mod' x.no 256) in cc

none_bad : (n : ℕ) (xs : List Record) → AllByRecursion (λ x. good n x ≡ true) xs → some_bad n xs ≡ false
none_bad n [] a = refl
none_bad n (x ∷ xs) a = let g = a.0 in rw g (none_bad n xs a.1)

length_packed : (xs : List Record) → length (packed_rules xs) ≡ 6 * length xs
length_packed [] = refl
length_packed (x ∷ xs) = let h = length_packed xs in omega arith

sheet_fine : (n used : ℕ) (xs : List Record) (r : List ℕ) → AllByRecursion (λ x. good n x ≡ true) xs → used + length xs ≤ 256 → first_met (sheet_table n used (packed_sheet xs ++ r)) ≡ None
sheet_fine n used xs r a l =
    let bytes = packed_sheet xs ++ r in
    let w : stated bytes ≡ 6 * length xs = div-add-mod' (6 * length xs) 256 in
    let d : stated bytes / 6 ≡ length xs = omega arith in
    let m : stated bytes % 6 ≡ 0 = omega arith in
    let c = length-append (packed_rules xs) r in
    let p = length_packed xs in
    let b = records_back xs r in
    let g = none_bad n xs a in
    let e : some_bad n (records (stated bytes / 6) (packed_rules xs ++ r)) ≡ false = cc in
    sheet_met n used bytes m (omega arith) (omega arith) ∙ cond-false _ (Some 8) None e

-- the sheets that come after those reached are refused for nothing
next_fine : (n used : ℕ) (rest end : List ℕ) (more : List (List Record)) → rest ≡ packed_sheets more ++ end → 0 < length more → AllByRecursion (AllByRecursion (λ x. good n x ≡ true)) more → used + count more ≤ 256 → first_met (sheet_table n used rest) ≡ None
next_fine n used rest end [] b l a few = absurd (omega arith)
next_fine n used rest end (xs ∷ more) b l a few =
    let e = b ∙ append_assoc (packed_sheet xs) (packed_sheets more) end in
    subst (λ (r : List ℕ). first_met (sheet_table n used r) ≡ None) (sym e) (sheet_fine n used xs (packed_sheets more ++ end) a.0 (omega arith))

-- Two readings of the same bytes

module _ {bytes : List ℕ} {n total : ℕ} {some : List (List Record)} {rest : List ℕ} (r : Reaches bytes n total some rest) where
  head_fine : first_met (head_table bytes) ≡ None
  head_fine =
      let e1 = ne_eqb n 0 (λ z. let s = r.some_matters in omega arith) in
      let e2 = le-ltb 16 n r.few_matters in
      let e3 = le-ltb 32 total r.few_sheets in
      let e0 = le-ltb (length (1 ∷ (n ∷ (total ∷ (packed_sheets some ++ rest))))) 3 (omega arith) in
      subst (λ (b : List ℕ). first_met (head_table b) ≡ None) (sym r.bytes_are) (rw (e0, e1, e2, e3))

  module _ {m sum : ℕ} {all : List (List Record)} {end : List ℕ} (s : Reaches bytes m sum all end) where
    same_bytes : 1 ∷ (n ∷ (total ∷ (packed_sheets some ++ rest))) ≡ 1 ∷ (m ∷ (sum ∷ (packed_sheets all ++ end)))
    same_bytes = sym r.bytes_are ∙ s.bytes_are

    same_matters : n ≡ m
    same_matters = let e = same_bytes in cc

    same_total : total ≡ sum
    same_total = let e = same_bytes in cc

    further : length some ≤ length all → Rest m some all rest end
    further l = let e = same_bytes in sheets_back m some all rest end l s.holdable.all_good (cc)

    -- what stands before more sheets is refused for nothing
    unrefused : length some < length all → first_met (sheet_table n (count some) rest) ≡ None
    unrefused l =
        let w = further (omega arith) in
        let few = s.holdable.few_rules in
        let c = w.few_rules in
        let m = w.so_many in
        subst (λ (i : ℕ). first_met (sheet_table i (count some) rest) ≡ None) (sym same_matters)
        (next_fine _ (count some) rest end w.more w.bytes_are (omega arith) w.all_good (omega arith))

    same_sheets : length some ≡ length all → (some ≡ all) × (rest ≡ end)
    same_sheets l =
        let w = further (omega arith) in
        let z = nil_from_length w.more (let m = w.so_many in omega arith) in
        let a = w.all_are in
        let b = w.bytes_are in
        let p = append-nil some in
        (cc, cc)

reaches_file : {bytes : List ℕ} {n : ℕ} {sheets : List (List Record)} → File bytes n sheets → Reaches bytes n (length sheets) sheets []
reaches_file {bytes} {n} {sheets} f = record {
  bytes_are = f.bytes_are ∙ ap (λ (b : List ℕ). 1 ∷ (n ∷ (length sheets ∷ b))) (sym (append-nil (packed_sheets sheets)));
  some_matters = f.some_matters;
  few_matters = f.few_matters;
  few_sheets = f.few_sheets;
  holdable = f.holdable;
}

pub one_file : {bytes : List ℕ} {n m : ℕ} {sheets others : List (List Record)} → File bytes n sheets → File bytes m others → (m ≡ n) × (others ≡ sheets)
one_file f g =
    let r = reaches_file f in
    let s = reaches_file g in
    (sym (same_matters r s), sym (same_sheets r s (same_total r s)).0)

-- what is refused is the file of no sheets at all
pub no_file : {bytes : List ℕ} {k : ℕ} → Refused bytes k → (m : ℕ) (all : List (List Record)) → File bytes m all → ⊥
no_file (in_head e) m all f = none≢some (head_fine (reaches_file f)) e
no_file (in_sheet r l e) m all f = let t = same_total r (reaches_file f) in none≢some (unrefused r (reaches_file f) (omega arith)) e
no_file (at_end r l h e) m all f =
    let t = same_total r (reaches_file f) in
    let b = ap length (same_sheets r (reaches_file f) (omega arith)).1 in
    omega arith

-- two sheets at which bytes are refused are the same sheet
one_sheet : {bytes : List ℕ} {k j n total m sum : ℕ} {some all : List (List Record)} {rest end : List ℕ} → Reaches bytes n total some rest → Reaches bytes m sum all end → length some ≤ length all
    → first_met (sheet_table n (count some) rest) ≡ Some k → first_met (sheet_table m (count all) end) ≡ Some j → k ≡ j
one_sheet {k} {j} {some} {all} r s l e f =
    ⊎_elim
    (λ lt. absurd (none≢some (unrefused r s lt) e))
    (λ ge. let w = same_sheets r s (omega arith) in let p = w.0 in let q = w.1 in let n = same_matters r s in cc)
    (cases_lt (length some) (length all))

-- and no other number fits
pub no_other : {bytes : List ℕ} {k j : ℕ} → Refused bytes k → Refused bytes j → j ≡ k
no_other (in_head e) (in_head f) = cc
no_other (in_head e) (in_sheet r l f) = absurd (none≢some (head_fine r) e)
no_other (in_head e) (at_end r l h f) = absurd (none≢some (head_fine r) e)
no_other (in_sheet r l e) (in_head f) = absurd (none≢some (head_fine r) f)
no_other (in_sheet {sheets = some} r l e) (in_sheet {sheets = all} s m f) =
    ⊎_elim (λ lt. sym (one_sheet r s (omega arith) e f)) (λ ge. one_sheet s r ge f e) (cases_lt (length some) (length all))
no_other (in_sheet r l e) (at_end s m h f) = let t = same_total r s in absurd (none≢some (unrefused r s (omega arith)) e)
no_other (at_end r l h e) (in_head f) = absurd (none≢some (head_fine r) f)
no_other (at_end r l h e) (in_sheet s m f) = let t = same_total r s in absurd (none≢some (unrefused s r (omega arith)) f)
no_other (at_end r l h e) (at_end s m i f) = omega arith

pub unambiguous : (bytes : List ℕ) → Unambiguous bytes
unambiguous bytes = record {
  one_file = λ n m sheets others f g. one_file f g;
  one_number = λ k j r s. no_other r s;
  not_both = λ k n sheets r f. no_file r n sheets f;
}
