-- What a pocket rack stands for, and how it is set up.
use Rattle.std.specs.Prelude.{◌≡◌, ℕ, ◌||◌, [], ◌∷◌, Result, ◌==◌, nat_lt}
use Rattle.rules.specs.Refusals.{Table, Judged}
use Rattle.racks.specs.Meaning.{Meaning}
use Rattle.racks.specs.Changing.{sheets_meaning}
pub use Rattle.racks.specs.Changing.{bare}
use Rattle.laying.specs.declared.fault.RackFault.{RackFault}
use Rattle.laying.specs.declared.pocket.PocketRack.{PocketRack}
use Rattle.laying.specs.Faults.{rack_number}

abbrev pub pocket_meaning : PocketRack → Meaning
pocket_meaning p = sheets_meaning p.sheets

abbrev pub set_up_table : ℕ → Table
set_up_table n = (3, (n == 0) || nat_lt 16 n) ∷ []

abbrev pub SetsUp : {U : Type 0} → ℕ → Meaning → Result U RackFault → Meaning → Type 0
SetsUp n old r new = Judged rack_number (set_up_table n) (λ _. new ≡ bare n) (new ≡ old) r
