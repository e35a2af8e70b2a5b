-- The packed file: which bytes sheets of records become, which bytes are a file, and why others are refused.
use Rattle.std.specs.Prelude.{◌≡◌, ℕ, zero, suc, ◌+◌, ◌*◌, ◌/◌, ◌%◌, ◌<◌, ◌≤◌, Bool, true, false, not, ◌||◌, List, [], ◌∷◌, ◌++◌, map, length, drop, Some, ◌==◌, nat_lt, slice_index}
use Rattle.std.specs.List.{flat_map, AllByRecursion}
use Rattle.rules.specs.declared.record.Record.{Record}
use Rattle.rules.specs.declared.rule.Rule.{Rule}
use Rattle.rules.specs.Records.{good, ruled}
use Rattle.rules.specs.Refusals.{Table, first_met}
use Rattle.racks.specs.Meaning.{Meaning}

-- From sheets to bytes

abbrev pub two_bytes : ℕ → List ℕ
two_bytes v = v / 256 ∷ (v % 256 ∷ [])

abbrev pub packed_rule : Record → List ℕ
packed_rule x = x.head ∷ (x.sign ∷ (two_bytes x.yes ++ two_bytes x.no))

abbrev pub packed_rules : List Record → List ℕ
packed_rules xs = flat_map packed_rule xs

-- the length counts the bytes of the rules alone
abbrev pub packed_sheet : List Record → List ℕ
packed_sheet xs = two_bytes (6 * length xs) ++ packed_rules xs

abbrev pub packed_sheets : List (List Record) → List ℕ
packed_sheets sheets = flat_map packed_sheet sheets

abbrev pub packed : ℕ → List (List Record) → List ℕ
packed n sheets = 1 ∷ (n ∷ (length sheets ∷ packed_sheets sheets))

-- Sheets that a rack can hold, and the rack that they are

abbrev pub count : List (List Record) → ℕ
count [] = 0
count (xs ∷ sheets) = length xs + count sheets

pub record Holdable (n : ℕ) (sheets : List (List Record)) : Type 0 where
  pub all_good : AllByRecursion (AllByRecursion (λ x. good n x ≡ true)) sheets
  pub few_rules : count sheets ≤ 256

-- the rules of these sheets, numbered from i on
abbrev pub numbered : ℕ → List (List Record) → List Rule
numbered i [] = []
numbered i (xs ∷ sheets) = map (ruled i) xs ++ numbered (i + 1) sheets

abbrev pub rack_of : ℕ → List (List Record) → Meaning
rack_of n sheets = record { matters = n; sheets = length sheets; rules = numbered 0 sheets }

-- the bytes are the file of these sheets
pub record File (bytes : List ℕ) (n : ℕ) (sheets : List (List Record)) : Type 0 where
  pub bytes_are : bytes ≡ packed n sheets
  pub some_matters : 0 < n
  pub few_matters : n ≤ 16
  pub few_sheets : length sheets ≤ 32
  pub holdable : Holdable n sheets

-- The refusals, in checking order

abbrev pub head_table : List ℕ → Table
head_table bytes =
    (1, nat_lt (length bytes) 3)
    ∷ ((2, not (slice_index bytes 0 == 1))
    ∷ ((3, (slice_index bytes 1 == 0) || nat_lt 16 (slice_index bytes 1))
    ∷ ((4, nat_lt 32 (slice_index bytes 2))
    ∷ [])))

-- the length that a sheet begins with
abbrev pub stated : List ℕ → ℕ
stated bytes = slice_index bytes 0 * 256 + slice_index bytes 1

-- the record of the six bytes at a place
abbrev pub record_at : List ℕ → ℕ → Record
record_at bytes i = record {
  head = slice_index bytes i;
  sign = slice_index bytes (i + 1);
  yes = slice_index bytes (i + 2) * 256 + slice_index bytes (i + 3);
  no = slice_index bytes (i + 4) * 256 + slice_index bytes (i + 5);
}

-- the first k records
abbrev pub records : ℕ → List ℕ → List Record
records zero bytes = []
records (suc k) bytes = record_at bytes 0 ∷ records k (drop 6 bytes)

abbrev pub some_bad : ℕ → List Record → Bool
some_bad n [] = false
some_bad n (x ∷ xs) = not (good n x) || some_bad n xs

-- what may be wrong with the sheet that comes next, after `used` rules
abbrev pub sheet_table : ℕ → ℕ → List ℕ → Table
sheet_table n used bytes =
    (5, nat_lt (length bytes) 2)
    ∷ ((6, not (stated bytes % 6 == 0))
    ∷ ((7, nat_lt 256 (used + stated bytes / 6))
    ∷ ((5, nat_lt (length bytes) (2 + stated bytes))
    ∷ ((8, some_bad n (records (stated bytes / 6) (drop 2 bytes)))
    ∷ []))))

-- after a sound head for `total` sheets, the bytes go on with these sheets and then with the rest
pub record Reaches (bytes : List ℕ) (n total : ℕ) (sheets : List (List Record)) (rest : List ℕ) : Type 0 where
  pub bytes_are : bytes ≡ 1 ∷ (n ∷ (total ∷ (packed_sheets sheets ++ rest)))
  pub some_matters : 0 < n
  pub few_matters : n ≤ 16
  pub few_sheets : total ≤ 32
  pub holdable : Holdable n sheets

-- the number by which the bytes are refused: in the head, at a sheet that is still to come, or for bytes left over
pub data Refused (bytes : List ℕ) (k : ℕ) : Type 0 where
  in_head : first_met (head_table bytes) ≡ Some k → Refused bytes k
  in_sheet : {n total : ℕ} {sheets : List (List Record)} {rest : List ℕ} → Reaches bytes n total sheets rest → length sheets < total → first_met (sheet_table n (count sheets) rest) ≡ Some k → Refused bytes k
  at_end : {n total : ℕ} {sheets : List (List Record)} {rest : List ℕ} → Reaches bytes n total sheets rest → length sheets ≡ total → 0 < length rest → k ≡ 9 → Refused bytes k
