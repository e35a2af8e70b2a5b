-- What is known of a rule for the own sheets once it passes the tests before the places.
use Rattle.std.specs.Prelude.{◌≡◌, ℕ, ◌<◌, true, is_some, Some, None, Option, ◌≢◌}
use Rattle.std.proofs.Common.{ap, subst, arith}
use Rattle.std.proofs.lemmas.Bool.{false≢true}
use Rattle.rules.specs.declared.record.Record.{Record}
use Rattle.rules.specs.declared.rule.Rule.{Rule}
use Rattle.rules.specs.declared.rule.Shape.{Shape}
use Rattle.rules.specs.Records.{good, Checks}
use Rattle.racks.specs.Meaning.{Meaning, shaped}

good_by : (n s : ℕ) (x : Record) (r : Option Rule) → Checks n s x r → is_some r ≡ true → good n x ≡ true
good_by n s x (Some y) h e = h.0
good_by n s x None h e = absurd (false≢true e)

pub admitted : (m o : Meaning) (x : Record) (below own : Shape) (r : Option Rule) → below ≡ shaped m → own ≡ shaped o → (own.sheets ≢ 0) → Checks below.matters 0 x r → is_some r ≡ true → (0 < o.sheets) × (good m.matters x ≡ true)
admitted m o x below own r b q z h e =
    let n = ap (λ (y : Shape). y.sheets) q in
    (omega arith, subst (λ (y : Shape). good y.matters x ≡ true) b (good_by below.matters 0 x r h e))
