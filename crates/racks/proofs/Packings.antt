-- Packing and unpacking: a record, the records of a sheet, the sheets.
use Rattle.std.proofs.Common.{◌≡◌, ℕ, zero, suc, ◌+◌, ◌-◌, ◌*◌, ◌/◌, ◌<◌, ◌≤◌, true, false, List, [], ◌∷◌, length, get_or, take, drop, refl, ap, ◌∙◌, subst, arith, length-drop, take-add}
use lib.Arith.{digits_div, digits_mod}
use Rattle.std.proofs.lemmas.List.{drop_more, drop-take, get_or-drop, get_or-take, length-take-le}
use Rattle.std.proofs.lemmas.Bool.{or_right}
use Rattle.std.specs.Simd.{first_chunks}
use Rattle.rules.specs.declared.record.Record.{Record}
use Rattle.rules.specs.Records.{good}
use Rattle.racks.specs.Packing.{two_bytes, packed_rule, packed_rules, record_at, records, some_bad}
use Rattle.racks.specs.Reading.{unpacked}

-- Two bytes

abbrev pub AllBytes : List ℕ → Type 0
AllBytes bytes = (i : ℕ) → get_or bytes i 0 < 256

pub two_bytes_of : (h l : ℕ) → l < 256 → two_bytes (h * 256 + l) ≡ h ∷ (l ∷ [])
two_bytes_of h l b = let d = digits_div h b in let m = digits_mod h b in cc

-- Records

six : (bytes : List ℕ) (i : ℕ) → i + 6 ≤ length bytes
    → take 6 (drop i bytes) ≡ get_or bytes i 0 ∷ (get_or bytes (i + 1) 0 ∷ (get_or bytes (i + 2) 0 ∷ (get_or bytes (i + 3) 0 ∷ (get_or bytes (i + 4) 0 ∷ (get_or bytes (i + 5) 0 ∷ [])))))
six bytes i l =
    let step : (k j : ℕ) → k + 1 ≡ j → k < length bytes → drop k bytes ≡ get_or bytes k 0 ∷ drop j bytes = λ k j e h. subst (λ (m : ℕ). drop k bytes ≡ get_or bytes k 0 ∷ drop m bytes) e (drop_more bytes k 0 h) in
    rw (
      step i (i + 1) (omega arith) (omega arith),
      step (i + 1) (i + 2) (omega arith) (omega arith),
      step (i + 2) (i + 3) (omega arith) (omega arith),
      step (i + 3) (i + 4) (omega arith) (omega arith),
      step (i + 4) (i + 5) (omega arith) (omega arith),
      step (i + 5) (i + 6) (omega arith) (omega arith),
    )

packed_record : (bytes : List ℕ) (i : ℕ) → AllBytes bytes → i + 6 ≤ length bytes → packed_rule (record_at bytes i) ≡ take 6 (drop i bytes)
packed_record bytes i b l =
    let y = two_bytes_of (get_or bytes (i + 2) 0) (get_or bytes (i + 3) 0) (b (i + 3)) in
    let n = two_bytes_of (get_or bytes (i + 4) 0) (get_or bytes (i + 5) 0) (b (i + 5)) in
    let s = six bytes i l in cc

pub bytes_drop : (bytes : List ℕ) (k : ℕ) → AllBytes bytes → AllBytes (drop k bytes)
bytes_drop bytes k b i = rw (get_or-drop k bytes i 0) (b (k + i))

-- the records that are read pack to the bytes that they are read from
pub packed_records : (k : ℕ) (bytes : List ℕ) → AllBytes bytes → 6 * k ≤ length bytes → packed_rules (records k bytes) ≡ take (6 * k) bytes
packed_records zero bytes b l = refl
packed_records (suc k) bytes b l =
    let h = packed_records k (drop 6 bytes) (bytes_drop bytes 6 b) (simp length-drop (omega arith)) in
    let r = packed_record bytes 0 b (omega arith) in
    let t = take-add 6 (6 * k) bytes in
    let e : 6 * suc k ≡ 6 + 6 * k = omega arith in
    cc

pub length_records : (k : ℕ) (bytes : List ℕ) → length (records k bytes) ≡ k
length_records zero bytes = refl
length_records (suc k) bytes = ap suc (length_records k (drop 6 bytes))

-- the records of whole chunks of six bytes
first_record : (n : ℕ) (bytes : List ℕ) → 6 ≤ n → record_at (take n bytes) 0 ≡ record_at bytes 0
first_record n bytes l =
    let g : (i : ℕ) → i < 6 → get_or (take n bytes) i 0 ≡ get_or bytes i 0 = λ i k. get_or-take n bytes i 0 (omega arith) in
    let a = g 0 (omega arith) in
    let b = g 1 (omega arith) in
    let c = g 2 (omega arith) in
    let d = g 3 (omega arith) in
    let e = g 4 (omega arith) in
    let f = g 5 (omega arith) in cc

records_front : (k n : ℕ) (bytes : List ℕ) → 6 * k ≤ n → records k (take n bytes) ≡ records k bytes
records_front zero n bytes l = refl
records_front (suc k) n bytes l =
    let a = first_record n bytes (omega arith) in
    let q : 6 + (n - 6) ≡ n = omega arith in
    let d = subst (λ (m : ℕ). drop 6 (take m bytes) ≡ take (n - 6) (drop 6 bytes)) q (drop-take 6 (n - 6) bytes) in
    let h = records_front k (n - 6) (drop 6 bytes) (omega arith) in cc

records_chunks : (k : ℕ) (bytes : List ℕ) → unpacked (first_chunks 6 k bytes) ≡ records k bytes
records_chunks zero bytes = refl
records_chunks (suc k) bytes = let h = records_chunks k (drop 6 bytes) in let r = first_record 6 bytes (omega arith) in cc

pub unpacked_records : (v : ℕ) (bytes rules : List ℕ) → rules ≡ take v bytes → v ≤ length bytes → unpacked (first_chunks 6 (length rules / 6) rules) ≡ records (v / 6) bytes
unpacked_records v bytes rules e l =
    let n : length rules ≡ v = ap length e ∙ length-take-le v bytes l in
    records_chunks (length rules / 6) rules
    ∙ ap (λ (k : ℕ). records (k / 6) rules) n
    ∙ ap (records (v / 6)) e
    ∙ records_front (v / 6) v bytes (omega arith)

-- one bad record among those read
pub bad_at : (n i : ℕ) (xs : List Record) (x : Record) → i < length xs → good n (get_or xs i x) ≡ false → some_bad n xs ≡ true
bad_at n i [] x l e = absurd (omega arith)
bad_at n zero (y ∷ xs) x l e = rw e
bad_at n (suc i) (y ∷ xs) x l e = or_right _ _ (bad_at n i xs x (omega arith) e)
