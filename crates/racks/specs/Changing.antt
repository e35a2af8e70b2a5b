-- What is made of a rack's meaning: a sheet more, a rule more, a sheet less; and the calls of numbered sheets that do it.
use Rattle.std.specs.Prelude.{◌≡◌, ℕ, ◌+◌, ◌-◌, Bool, true, false, ◌&&◌, [], ◌∷◌, ◌++◌, length, filter, Some, None, Option, nat_lt}
use Rattle.rules.specs.declared.record.Record.{Record}
use Rattle.rules.specs.declared.rule.Rule.{Rule}
use Rattle.rules.specs.Held.{held}
use Rattle.rules.specs.Records.{allowed, good, ruled}
use Rattle.racks.specs.declared.sheets.Sheets.{Sheets}
use Rattle.racks.specs.Meaning.{Meaning}

abbrev pub sheets_meaning : Sheets → Meaning
sheets_meaning s = record { matters = s.matters; sheets = s.sheets; rules = held s.table }

abbrev pub under : ℕ → Rule → Bool
under s r = nat_lt r.sheet s

-- n matters, and no sheet
abbrev pub bare : ℕ → Meaning
bare n = record { matters = n; sheets = 0; rules = [] }

abbrev pub begun : Meaning → Meaning
begun m = record { matters = m.matters; sheets = m.sheets + 1; rules = m.rules }

abbrev pub laid : Meaning → Record → Meaning
laid m x = record { matters = m.matters; sheets = m.sheets; rules = m.rules ++ (ruled (m.sheets - 1) x ∷ []) }

abbrev pub withdrawn : Meaning → Meaning
withdrawn m = record { matters = m.matters; sheets = m.sheets - 1; rules = filter (under (m.sheets - 1)) m.rules }

-- there is room for one sheet more
abbrev pub beginnable : Meaning → Bool
beginnable m = nat_lt m.sheets 32

abbrev pub withdrawable : Meaning → Bool
withdrawable m = nat_lt 0 m.sheets

-- there is a sheet to lay on, the record is good, and a table has room
abbrev pub layable : Meaning → Record → Bool
layable m x = nat_lt 0 m.sheets && (good m.matters x && nat_lt (length m.rules) 256)

abbrev pub MakesBare : ℕ → Option Sheets → Type 0
MakesBare n (Some s) = (allowed n ≡ true) × (sheets_meaning s ≡ bare n)
MakesBare n None = allowed n ≡ false

-- a call that changes what passes the test, and otherwise answers none and changes nothing
abbrev pub Changes : {U : Type 0} → (Meaning → Bool) → (Meaning → Meaning) → Meaning → Option U → Meaning → Type 0
Changes test change old (Some u) new = (test old ≡ true) × (new ≡ change old)
Changes test change old None new = (test old ≡ false) × (new ≡ old)
