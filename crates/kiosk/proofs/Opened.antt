-- A session open on a rack, and what a fact does in it, by the shape of the rack and the rule of the fact's record.
use Rattle.std.specs.Prelude.{◌≡◌, ℕ, ◌+◌, ◌<◌, ◌≤◌, Bool, true, false, List, [], ◌∷◌, ◌++◌, length, Some, None, Ok, Err, Option}
use Rattle.std.proofs.Common.{sym, ap, subst, ◌∙◌, arith}
use Rattle.std.proofs.lemmas.List.{length_push}
use Rattle.rules.specs.declared.rule.Rule.{Rule}
use Rattle.rules.specs.declared.rule.Shape.{Shape}
use Rattle.rules.specs.Records.{good, signed, Checks}
use Rattle.racks.specs.Meaning.{Meaning, Kept, shaped}
use Rattle.laying.specs.Laying.{Ground}
use Rattle.kiosk.specs.declared.call.Call.TheVariants.{Fact as Stating}
use Rattle.kiosk.specs.declared.fault.KioskFault.TheVariants.{BadFact, RulesFull}
use Rattle.kiosk.specs.declared.kiosk.Kiosk.{Kiosk}
use Rattle.kiosk.specs.declared.slip.Fact.{Fact}
use Rattle.kiosk.specs.Slip.{Finds, re_signed, matters_in}
use Rattle.kiosk.specs.Book.{step, Does}
use Rattle.kiosk.specs.Standing.{booked, slip_of, seated}
use Rattle.kiosk.specs.Facts.{length_re_signed}
use Rattle.kiosk.specs.Steps.{seated_is, seated_from, seated_parts, fact_record, sound_fact, fact_bad, fact_found, fact_full, fact_added}

-- a session is open on a rack of this shape, with this slip
pub record Opened (g : Ground) (below : Shape) (o : Option ℕ) (fs : List Fact) : Type 0 where
  pub kept : Kept g.meaning
  pub shape : below ≡ shaped g.meaning
  pub seat : seated (shaped g.meaning) o fs ≡ true
  pub matters : o ≡ Some g.meaning.matters
  pub sheets : g.meaning.sheets < 32
  pub rules : length g.meaning.rules + length fs ≤ 256

pub opened : {R : Type 0} (m : R → Meaning) (g : R → Ground) (k : Kiosk R) {below : Shape} {v : Bool} → (g k.rack).meaning ≡ m k.rack → Kept (m k.rack) → below ≡ shaped (m k.rack) → v ≡ seated below k.session k.slip.facts.items → v ≡ true → Opened (g k.rack) below k.session k.slip.facts.items
opened m g k same kept shape h e =
    let n = (g k.rack).meaning in
    let fs = k.slip.facts.items in
    let q = shape ∙ ap shaped (sym same) in
    let sat = seated_is true n k.session fs q h e in
    let p = seated_parts n k.session fs sat in
    record { kept = subst Kept (sym same) kept; shape = q; seat = sat; matters = p.0; sheets = p.1; rules = p.2 }

module _ {g : Ground} {below : Shape} {o : Option ℕ} {fs : List Fact} (t : Opened g below o fs) (a s : ℕ) where
  pub opened_sound : good below.matters (fact_record a s) ≡ true → a < matters_in o
  opened_sound h = omega (arith, sound_fact below.matters a s h, ap (λ (x : Shape). x.matters) t.shape, ap matters_in t.matters)

  read_as : (b : Bool) → good below.matters (fact_record a s) ≡ b → good g.meaning.matters (fact_record a s) ≡ b
  read_as b h = sym (ap (λ (x : Shape). good x.matters (fact_record a s)) t.shape) ∙ h

  pub opened_bad : good below.matters (fact_record a s) ≡ false → Does (step (booked g (slip_of (seated (shaped g.meaning) o fs) fs)) (Stating a s)) (Err BadFact) (booked g (slip_of (seated (shaped g.meaning) o fs) fs))
  opened_bad h = fact_bad g (seated (shaped g.meaning) o fs) fs a s t.kept t.seat (read_as false h)

  pub opened_found : (r : Rule) → Checks below.matters below.sheets (fact_record a s) (Some r) → (i : ℕ) → Finds fs a (Some i) → (es : List Fact) → es ≡ re_signed fs i r.sign → Does (step (booked g (slip_of (seated (shaped g.meaning) o fs) fs)) (Stating a s)) (Ok tt) (booked g (slip_of (seated (shaped g.meaning) o es) es))
  opened_found r h i f es ee =
      let es-is : es ≡ re_signed fs i (signed s) = ee ∙ ap (λ (y : Rule). re_signed fs i y.sign) h.1 in
      let te = seated_from g.meaning o es t.matters t.sheets (omega (arith, t.rules, ap length es-is, length_re_signed fs i (signed s))) in
      fact_found g (seated (shaped g.meaning) o fs) fs a s t.kept i t.seat (read_as true h.0) f (seated (shaped g.meaning) o es) es te es-is

  pub opened_full : good below.matters (fact_record a s) ≡ true → Finds fs a None → 256 ≤ below.rules + length fs → Does (step (booked g (slip_of (seated (shaped g.meaning) o fs) fs)) (Stating a s)) (Err RulesFull) (booked g (slip_of (seated (shaped g.meaning) o fs) fs))
  opened_full h f l =
      let n = ap (λ (x : Shape). x.rules) t.shape in
      fact_full g (seated (shaped g.meaning) o fs) fs a s t.kept t.seat (read_as true h) f (omega (arith, l, n))

  pub opened_added : (r : Rule) → Checks below.matters below.sheets (fact_record a s) (Some r) → Finds fs a None → below.rules + length fs < 256 → (es : List Fact) → es ≡ fs ++ (record { matter = a; sign = r.sign } ∷ []) → Does (step (booked g (slip_of (seated (shaped g.meaning) o fs) fs)) (Stating a s)) (Ok tt) (booked g (slip_of (seated (shaped g.meaning) o es) es))
  opened_added r h f l es ee =
      let lt : length g.meaning.rules + length fs < 256 = omega (arith, l, ap (λ (x : Shape). x.rules) t.shape) in
      let es-is : es ≡ fs ++ (record { matter = a; sign = signed s } ∷ []) = ee ∙ ap (λ (y : Rule). fs ++ (record { matter = a; sign = y.sign } ∷ [])) h.1 in
      let te = seated_from g.meaning o es t.matters t.sheets (omega (arith, lt, ap length es-is, length_push fs (record { matter = a; sign = signed s }))) in
      fact_added g (seated (shaped g.meaning) o fs) fs a s t.kept t.seat (read_as true h.0) f lt (seated (shaped g.meaning) o es) es te es-is
