-- What a report on n matters and the rules P leaves in its list and its buffer, under an order with this code.
use Rattle.std.specs.Prelude.{◌≡◌, ℕ, ◌<◌, ◌≤◌, ◌⊎◌, List, ◌++◌, length, take, drop, Ok, Err, Result}
use Rattle.rules.specs.declared.rule.Rule.{Rule}
use Rattle.rules.specs.Semantics.{LiteralSet, Overruling, WellFounded}
use Rattle.evaluator.specs.declared.answer.EvaluatorFault.{EvaluatorFault}
use Rattle.evaluator.specs.Faults.{fault_number}
use Rattle.evaluator.specs.Answers.{Filled, Overfull}
use Rattle.report.specs.Text.{text}

-- t is the text of the report, and the list was filled for it
pub record Composed (P : List Rule) (over : Overruling) (n code : ℕ) (old new : List ℕ) (t : List ℕ) : Type 0 where
  pub count : ℕ
  pub model : LiteralSet
  pub filled : Filled P over n old new count
  pub well_founded : WellFounded P over n model
  pub text_is : t ≡ text code n (take count new) model

-- the text stands at the front of the buffer, and the bytes after it are as they were
pub record Told (P : List Rule) (over : Overruling) (n code : ℕ) (old new before after : List ℕ) (len : ℕ) : Type 0 where
  pub words : List ℕ
  pub composed : Composed P over n code old new words
  pub len_is : len ≡ length words
  pub fits : len ≤ length before
  pub after_is : after ≡ words ++ drop len before

-- the text is longer than the buffer
pub record TooLong (P : List Rule) (over : Overruling) (n code : ℕ) (old new before : List ℕ) : Type 0 where
  pub words : List ℕ
  pub composed : Composed P over n code old new words
  pub longer : length before < length words

-- refusal 31: more outcomes than places; and then 32. Neither changes the buffer
abbrev pub Reported : List Rule → Overruling → ℕ → ℕ → List ℕ → List ℕ → List ℕ → List ℕ → Result ℕ EvaluatorFault → Type 0
Reported P over n code old new before after (Ok len) = Told P over n code old new before after len
Reported P over n code old new before after (Err f) =
    (((fault_number f ≡ 31) × Overfull P over n new) ⊎ ((fault_number f ≡ 32) × TooLong P over n code old new before)) × (after ≡ before)
