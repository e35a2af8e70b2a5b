-- From a written text to a report.
use Rattle.std.proofs.Common.{ℕ, ◌^◌, ◌≤◌, List, length, take, Some, None, Option, refl, inr, arith, pow_mono}
use Rattle.std.specs.Option.{ok_or}
use Rattle.rules.specs.declared.rule.Rule.{Rule}
use Rattle.rules.specs.Semantics.{Overruling}
use Rattle.rules.proofs.Listing.{lists_short}
use Rattle.evaluator.specs.declared.answer.EvaluatorFault.TheVariants.{TextTooLong}
use Rattle.evaluator.specs.Answers.{Filled}
use Rattle.report.specs.Writing.{Writes}
use Rattle.report.specs.Reports.{Composed, Reported}

-- a listing has few enough lines
pub filled_short : {P : List Rule} {over : Overruling} {n k : ℕ} {old new : List ℕ} → n ≤ 16 → Filled P over n old new k → length (take k new) ≤ 65536
filled_short {n} few f =
    let p : 2 ^ n ≤ 2 ^ 16 = pow_mono few in
    let l = lists_short f.front in
    omega arith

pub reported : {P : List Rule} {over : Overruling} {n code : ℕ} {old new words : List ℕ} (before after : List ℕ) → Composed P over n code old new words → (w : Option ℕ) → Writes words before after w → Reported P over n code old new before after (ok_or w TextTooLong)
reported {words} before after composed (Some len) h = record { words = words; composed = composed; len_is = h.0; fits = h.1; after_is = h.2 }
reported {words} before after composed None h = (inr (refl, record { words = words; composed = composed; longer = h.0 }), h.1)
