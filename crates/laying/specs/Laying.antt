-- What begin, lay and withdraw make of an open rack, and when they refuse.
use Rattle.std.specs.Prelude.{◌≡◌, ℕ, ◌+◌, ◌≤◌, not, leb, [], ◌∷◌, length, filter, Result, nat_le}
use Rattle.rules.specs.declared.record.Record.{Record}
use Rattle.rules.specs.declared.rule.Shape.{Shape}
use Rattle.rules.specs.Records.{good}
use Rattle.rules.specs.Refusals.{Table, Judged}
use Rattle.racks.specs.Meaning.{Meaning}
pub use Rattle.racks.specs.Changing.{under, begun, laid, withdrawn}
use Rattle.laying.specs.declared.fault.RackFault.{RackFault}
use Rattle.laying.specs.Faults.{rack_number}

-- An open rack: its meaning, the sheets that it cannot withdraw, and its rule places
pub record Ground : Type 0 where
  pub meaning : Meaning
  pub floor : ℕ
  pub places : ℕ

abbrev pub ground : Meaning → ℕ → ℕ → Ground
ground m f p = record { meaning = m; floor = f; places = p }

-- one place is used by each rule above the floor
abbrev pub used : Meaning → ℕ → ℕ
used m floor = length (filter (λ r. leb floor r.sheet) m.rules)

abbrev pub below_floor : Meaning → ℕ → ℕ
below_floor m floor = length (filter (under floor) m.rules)

-- what every open rack keeps to
pub record Grounded (g : Ground) : Type 0 where
  pub floored : g.floor ≤ g.meaning.sheets
  pub housed : used g.meaning g.floor ≤ g.places
  pub bounded : g.places + below_floor g.meaning g.floor ≤ 256

abbrev pub over_again : Ground → Meaning → Ground
over_again g m = record { meaning = m; floor = g.floor; places = g.places }

-- When they refuse, in checking order

abbrev pub begin_table : Ground → Table
begin_table g = (11, nat_le 32 g.meaning.sheets) ∷ []

abbrev pub lay_table : Ground → Record → Table
lay_table g x =
    (12, nat_le g.meaning.sheets g.floor)
    ∷ ((13, not (good g.meaning.matters x))
    ∷ ((14, nat_le g.places (used g.meaning g.floor))
    ∷ []))

-- the same said of sheets that stand on the floor 0, by their shape
abbrev pub admit_table : Shape → ℕ → Record → Table
admit_table own places x =
    (12, nat_le own.sheets 0)
    ∷ ((13, not (good own.matters x))
    ∷ ((14, nat_le places own.rules)
    ∷ []))

abbrev pub withdraw_table : Ground → Table
withdraw_table g = (12, nat_le g.meaning.sheets g.floor) ∷ []

-- The calls, from one ground to the next

abbrev pub Begins : {U : Type 0} → Ground → Result U RackFault → Ground → Type 0
Begins g r h = Judged rack_number (begin_table g) (λ _. h ≡ over_again g (begun g.meaning)) (h ≡ g) r

abbrev pub Lays : {U : Type 0} → Ground → Record → Result U RackFault → Ground → Type 0
Lays g x r h = Judged rack_number (lay_table g x) (λ _. h ≡ over_again g (laid g.meaning x)) (h ≡ g) r

abbrev pub Withdraws : {U : Type 0} → Ground → Result U RackFault → Ground → Type 0
Withdraws g r h = Judged rack_number (withdraw_table g) (λ _. h ≡ over_again g (withdrawn g.meaning)) (h ≡ g) r
