-- What the evaluator says of one matter.
use Rattle.std.specs.Prelude.{ℕ, Bool, true, false, List, [], ◌∷◌, Result, nat_le}
use Rattle.rules.specs.declared.rule.Rule.{Rule}
use Rattle.rules.specs.Refusals.{Table, Judged}
use Rattle.rules.specs.Semantics.{Mem, LiteralSet, Overruling, Outcome, WellFounded}
use Rattle.evaluator.specs.declared.answer.EvaluatorFault.{EvaluatorFault}
use Rattle.evaluator.specs.declared.answer.Reading.{Reading}
use Rattle.evaluator.specs.declared.answer.Reading.TheVariants.{Undefined, True, False, Contradictory}
use Rattle.evaluator.specs.declared.answer.Ruling.{Ruling}
use Rattle.evaluator.specs.declared.answer.Ruling.TheVariants.{Always, Never, Varies, NoOutcome}
use Rattle.evaluator.specs.Faults.{fault_number}

abbrev pub matter_table : ℕ → ℕ → Table
matter_table n a = (13, nat_le n a) ∷ []

-- Readings

-- which signs of the matter a the literal set X holds
abbrev pub Reads : LiteralSet → ℕ → Reading → Type 0
Reads X a Undefined = (Mem a X.0 → ⊥) × (Mem a X.1 → ⊥)
Reads X a True = Mem a X.0 × (Mem a X.1 → ⊥)
Reads X a False = (Mem a X.0 → ⊥) × Mem a X.1
Reads X a Contradictory = Mem a X.0 × Mem a X.1

-- r is the reading of a in the well-founded model
pub record ReadingOf (P : List Rule) (over : Overruling) (n a : ℕ) (r : Reading) : Type 0 where
  pub model : LiteralSet
  pub well_founded : WellFounded P over n model
  pub reads : Reads model a r

abbrev pub ReadingAnswered : List Rule → Overruling → ℕ → ℕ → Result Reading EvaluatorFault → Type 0
ReadingAnswered P over n a r = Judged fault_number (matter_table n a) (ReadingOf P over n a) (Unit {0}) r

-- Rulings

-- some outcome has the matter, or lacks it
pub record SomeWith (P : List Rule) (over : Overruling) (n a : ℕ) : Type 0 where
  pub outcome : ℕ
  pub is_one : Outcome P over n outcome
  pub has : Mem a outcome

pub record SomeWithout (P : List Rule) (over : Overruling) (n a : ℕ) : Type 0 where
  pub outcome : ℕ
  pub is_one : Outcome P over n outcome
  pub lacks : Mem a outcome → ⊥

abbrev pub RulingOf : List Rule → Overruling → ℕ → ℕ → Ruling → Type 0
RulingOf P over n a Always = SomeWith P over n a × (SomeWithout P over n a → ⊥)
RulingOf P over n a Never = SomeWithout P over n a × (SomeWith P over n a → ⊥)
RulingOf P over n a Varies = SomeWith P over n a × SomeWithout P over n a
RulingOf P over n a NoOutcome = (SomeWith P over n a → ⊥) × (SomeWithout P over n a → ⊥)

-- the ruling, by whether some outcome has the matter, and whether some lacks it
abbrev pub sum : Bool → Bool → Ruling
sum true false = Always
sum false true = Never
sum true true = Varies
sum false false = NoOutcome

abbrev pub RulingAnswered : List Rule → Overruling → ℕ → ℕ → Result Ruling EvaluatorFault → Type 0
RulingAnswered P over n a r = Judged fault_number (matter_table n a) (RulingOf P over n a) (Unit {0}) r
