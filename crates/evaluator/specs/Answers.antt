-- What the evaluator answers of n matters and a list of rules P, under the relation `over` between sheets.
use Rattle.std.specs.Prelude.{◌≡◌, ℕ, ◌<◌, ◌≤◌, List, length, take, drop, Ok, Err, Result}
use Rattle.rules.specs.declared.rule.Rule.{Rule}
use Rattle.rules.specs.Semantics.{Overruling, Lists}
use Rattle.evaluator.specs.declared.answer.EvaluatorFault.{EvaluatorFault}
use Rattle.evaluator.specs.Faults.{fault_number}

-- a listing into given places: the outcomes stand in the first k of them, and the others hold what they held
pub record Filled (P : List Rule) (over : Overruling) (n : ℕ) (old new : List ℕ) (k : ℕ) : Type 0 where
  pub enough : k ≤ length new
  pub front : Lists P over n (take k new)
  pub rest : drop k new ≡ drop k old

-- there are more outcomes than places, which hold the lowest that fit
pub record Overfull (P : List Rule) (over : Overruling) (n : ℕ) (new : List ℕ) : Type 0 where
  pub outcomes : List ℕ
  pub listed : Lists P over n outcomes
  pub too_many : length new < length outcomes
  pub lowest : new ≡ take (length new) outcomes

abbrev pub Listed : List Rule → Overruling → ℕ → List ℕ → List ℕ → Result ℕ EvaluatorFault → Type 0
Listed P over n old new (Ok k) = Filled P over n old new k
Listed P over n old new (Err f) = (fault_number f ≡ 31) × Overfull P over n new
