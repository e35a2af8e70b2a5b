-- A rack of which some rules alone are shown.
use Rattle.std.specs.Prelude.{ℕ, Bool, not, filter, ◌==◌}
use Rattle.rules.specs.declared.rule.Rule.{Rule}
use Rattle.rules.specs.declared.rule.Shape.{Shape}
use Rattle.racks.specs.Meaning.{Meaning}

-- sheets keep their numbers and their number
abbrev pub showing : (Rule → Bool) → Meaning → Meaning
showing p m = record { matters = m.matters; sheets = m.sheets; rules = filter p m.rules }

abbrev pub with_rules : ℕ → Shape → Shape
with_rules k x = record { matters = x.matters; sheets = x.sheets; rules = k }

abbrev pub off_sheet : ℕ → Rule → Bool
off_sheet s r = not (r.sheet == s)
