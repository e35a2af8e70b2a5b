-- From a filled rack and a report on it to what kiosk-list says.
use Rattle.std.proofs.Common.{◌≡◌, ℕ, ◌+◌, ◌*◌, ◌≤◌, List, ◌++◌, length, take, drop, Some, Err, ap, ◌∙◌, subst, ⊎_elim, mul-le-mul, arith}
use Rattle.std.proofs.lemmas.List.{length-take-le}
use Rattle.racks.specs.declared.file.FileRack.{FileRack}
use Rattle.racks.specs.Filing.{file_meaning, Filled}
use Rattle.racks.specs.Meaning.{Meaning}
use Rattle.orders.specs.Overrules.{by_position}
use Rattle.evaluator.specs.declared.answer.EvaluatorFault.{EvaluatorFault}
use Rattle.evaluator.specs.Answers.{Overfull}
use Rattle.evaluator.specs.Faults.{fault_number}
use Rattle.report.specs.Listings.{refusal, Says, Answers}
use Rattle.report.specs.Listings.Says.{outcomes, too_many}
use Rattle.report.specs.Reports.{Reported, Told, TooLong}
use Rattle.report.specs.Text.{text}
use Rattle.report.specs.Writing.{Writes}
use Rattle.report.proofs.Lengths.{length_text, decimal_short}

pub said_refusal : {bytes before after : List ℕ} {len : ℕ} (k : ℕ) → Says bytes (refusal k) → Writes (refusal k) before after (Some len) → Answers bytes before after len
said_refusal k says w = record { words = refusal k; says = says; len_is = w.0; fits = w.1; after_is = w.2 }

module _ {bytes : List ℕ} {rack : FileRack} (filled : Filled bytes rack) where
  pub said_report : {old new before after : List ℕ} {len : ℕ} → length new ≡ 1024 → Told (file_meaning rack).rules by_position (file_meaning rack).matters 1 old new before after len → Answers bytes before after len
  said_report {old} {new} {before} {after} {len} l t =
      let u = subst (λ (m : Meaning). Told m.rules by_position m.matters 1 old new before after len) filled.holds t in
      let c = u.composed in
      let e = length-take-le c.count new c.filled.enough in
      record {
        words = text 1 filled.matters (take c.count new) c.model;
        says = outcomes filled.file c.filled.front (let h = c.filled.enough in omega arith) c.well_founded;
        len_is = u.len_is ∙ ap length c.text_is;
        fits = u.fits;
        after_is = u.after_is ∙ ap (λ (ws : List ℕ). ws ++ drop len before) c.text_is;
      }

  pub said_too_many : {new : List ℕ} → length new ≡ 1024 → Overfull (file_meaning rack).rules by_position (file_meaning rack).matters new → Says bytes (refusal 31)
  said_too_many {new} l o =
      let u = subst (λ (m : Meaning). Overfull m.rules by_position m.matters new) filled.holds o in
      too_many filled.file u.listed (let h = u.too_many in omega arith)

  -- 1,024 lines of 16 digits and the two others are no longer than 32,768 bytes
  pub never_too_long : {old new before : List ℕ} → length new ≡ 1024 → length before ≡ 32768 → TooLong (file_meaning rack).rules by_position (file_meaning rack).matters 1 old new before → ⊥
  never_too_long {old} {new} {before} l k t =
      let u = subst (λ (m : Meaning). TooLong m.rules by_position m.matters 1 old new before) filled.holds t in
      let c = u.composed in
      let Ms = take c.count new in
      let n = filled.matters in
      let e = length-take-le c.count new c.filled.enough in
      let few = filled.file.few_matters in
      let lines : length Ms + 1 ≤ 1025 = let h = c.filled.enough in omega arith in
      let digits : n + 1 ≤ 17 = omega arith in
      let product : (length Ms + 1) * (n + 1) ≤ 1025 * 17 = mul-le-mul lines digits in
      let d = decimal_short (length Ms) (omega arith) in
      let o = decimal_short 1 (omega arith) in
      let long = ap length c.text_is ∙ length_text 1 n Ms c.model in
      let h = u.longer in
      omega arith

  -- the one refusal of a report for which the buffers are too small
  pub said_fault : {old new before after : List ℕ} (f : EvaluatorFault) → length new ≡ 1024 → length before ≡ 32768 → Reported (file_meaning rack).rules by_position (file_meaning rack).matters 1 old new before after (Err f) → Says bytes (refusal (fault_number f))
  said_fault f l k r = ⊎_elim (λ o. rw o.0 (said_too_many l o.1)) (λ o. absurd (never_too_long l k o.1)) r.0
