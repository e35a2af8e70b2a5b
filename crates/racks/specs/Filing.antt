-- What a file rack stands for, and what filling one does.
use Rattle.std.specs.Prelude.{◌≡◌, ℕ, List, Ok, Err, Result}
use Rattle.rules.specs.declared.record.Record.{Record}
use Rattle.racks.specs.declared.file.FileRack.{FileRack}
use Rattle.racks.specs.declared.file.fault.FileFault.{FileFault}
use Rattle.racks.specs.Meaning.{Meaning}
use Rattle.racks.specs.Changing.{sheets_meaning}
use Rattle.racks.specs.Packing.{File, Refused, rack_of}
use Rattle.racks.specs.Faults.{file_number}

abbrev pub file_meaning : FileRack → Meaning
file_meaning f = sheets_meaning f.sheets

-- the bytes are a file, and the rack is the rack of its sheets
pub record Filled (bytes : List ℕ) (rack : FileRack) : Type 0 where
  pub matters : ℕ
  pub sheets : List (List Record)
  pub file : File bytes matters sheets
  pub holds : file_meaning rack ≡ rack_of matters sheets

-- the bytes are refused by the number k and are no file at all, and the rack is left as it was
pub record Left (bytes : List ℕ) (k : ℕ) (old new : FileRack) : Type 0 where
  pub refused : Refused bytes k
  pub no_file : (n : ℕ) (sheets : List (List Record)) → File bytes n sheets → ⊥
  pub same : new ≡ old

-- bytes are the file of one n and one list of sheets, or are refused by one number, and never both
pub record Unambiguous (bytes : List ℕ) : Type 0 where
  pub one_file : (n m : ℕ) (sheets others : List (List Record)) → File bytes n sheets → File bytes m others → (m ≡ n) × (others ≡ sheets)
  pub one_number : (k j : ℕ) → Refused bytes k → Refused bytes j → j ≡ k
  pub not_both : (k n : ℕ) (sheets : List (List Record)) → Refused bytes k → File bytes n sheets → ⊥

abbrev pub Fills : {U : Type 0} → List ℕ → FileRack → Result U FileFault → FileRack → Type 0
Fills bytes old (Ok u) new = Filled bytes new
Fills bytes old (Err f) new = Left bytes (file_number f) old new

-- a reader's answer: the rack that the bytes are the file of, or why there is none
abbrev pub Parses : List ℕ → Result FileRack FileFault → Type 0
Parses bytes (Ok rack) = Filled bytes rack
Parses bytes (Err f) = Refused bytes (file_number f)
