-- Own sheets on top of a rack.
use Rattle.std.specs.Prelude.{ℕ, ◌+◌, ◌-◌, min, Bool, true, false, ◌&&◌, ◌++◌, map, ◌==◌, nat_le}
use Rattle.rules.specs.declared.rule.Rule.{Rule}
use Rattle.rules.specs.declared.rule.Shape.{Shape}
use Rattle.racks.specs.Meaning.{Meaning, shaped}
use Rattle.laying.specs.Laying.{Ground, ground}

-- the own places on a rack of this shape: 32, or what 256 leaves
abbrev pub own_places : Shape → ℕ
own_places below = min 32 (256 - below.rules)

abbrev pub fits : Shape → Shape → Bool
fits below own = own.matters == below.matters && (nat_le (below.sheets + own.sheets) 32 && nat_le own.rules (own_places below))

-- a rule of the own sheets, which begin at sheet s
abbrev pub raised : ℕ → Rule → Rule
raised s r = record { sheet = s + r.sheet; head = r.head; sign = r.sign; yes = r.yes; no = r.no }

abbrev pub over : Bool → Meaning → Meaning → Meaning
over true m o = record { matters = m.matters; sheets = m.sheets + o.sheets; rules = m.rules ++ map (raised m.sheets) o.rules }
over false m o = m

abbrev pub shape_over : Bool → Shape → Shape → Shape
shape_over true below own = record { matters = below.matters; sheets = below.sheets + own.sheets; rules = below.rules + own.rules }
shape_over false below own = below

-- own sheets that do not fit count as none
abbrev pub amended : Meaning → Meaning → Meaning
amended m o = over (fits (shaped m) (shaped o)) m o

abbrev pub stood : Meaning → Meaning → Ground
stood m o = ground (amended m o) m.sheets (own_places (shaped m))
