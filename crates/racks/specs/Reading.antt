-- What the parts of a reader of packed files owe: one sheet, and the rules of one sheet.
use Rattle.std.specs.Prelude.{◌≡◌, ℕ, ◌+◌, ◌-◌, ◌≤◌, true, List, ◌++◌, map, length, Some, Ok, Err, Result}
use Rattle.std.specs.Borrow.{Bor}
use Rattle.std.specs.List.{AllByRecursion}
use Rattle.rules.specs.declared.record.Record.{Record}
use Rattle.rules.specs.Records.{good, ruled}
use Rattle.rules.specs.Refusals.{first_met}
use Rattle.racks.specs.declared.file.fault.FileFault.{FileFault}
use Rattle.racks.specs.declared.file.fault.FileFault.TheVariants.{BadRule}
use Rattle.racks.specs.Meaning.{Meaning}
use Rattle.racks.specs.Packing.{packed_sheet, record_at, some_bad, sheet_table}
use Rattle.racks.specs.Faults.{file_number}

-- these records more on the top sheet
abbrev pub all_laid : Meaning → List Record → Meaning
all_laid m xs = record { matters = m.matters; sheets = m.sheets; rules = m.rules ++ map (ruled (m.sheets - 1)) xs }

-- the records are good, and are laid on the top sheet
pub record Adds (xs : List Record) (old new : Meaning) : Type 0 where
  pub all_good : AllByRecursion (λ x. good old.matters x ≡ true) xs
  pub added : new ≡ all_laid old xs

abbrev pub unpacked : List (List ℕ) → List Record
unpacked rules = map (λ bytes. record_at bytes 0) rules

-- rules of six bytes each
abbrev pub ReadsRules : {U : Type 0} → List (List ℕ) → Meaning → Result U FileFault → Meaning → Type 0
ReadsRules rules old (Ok u) new = Adds (unpacked rules) old new
ReadsRules rules old (Err f) new = (f ≡ BadRule) × (some_bad old.matters (unpacked rules) ≡ true)

-- the sheet that the bytes begin with, and what comes after it
pub record SheetRead (bytes : List ℕ) (old : Meaning) (rest : List ℕ) (new : Meaning) : Type 0 where
  pub sheet : List Record
  pub bytes_are : bytes ≡ packed_sheet sheet ++ rest
  pub adds : Adds sheet old new
  pub few_rules : length old.rules + length sheet ≤ 256

abbrev pub ReadsSheet : List ℕ → Meaning → Result (Bor (List ℕ)) FileFault → Meaning → Type 0
ReadsSheet bytes old (Ok rest) new = SheetRead bytes old rest.now new
ReadsSheet bytes old (Err f) new = first_met (sheet_table old.matters (length old.rules) bytes) ≡ Some (file_number f)
