-- What outcomes obey, under every order.
use Rattle.std.specs.Prelude.{◌≡◌, ℕ, List, take, Ok, Err, Result}
use Rattle.rules.specs.declared.rule.Rule.{Rule}
use Rattle.rules.specs.Semantics.{Mem, LiteralSet, Overruling, Outcome, WellFounded, struck}
use Rattle.racks.specs.Meaning.{Meaning}
use Rattle.evaluator.specs.declared.answer.EvaluatorFault.{EvaluatorFault}
use Rattle.evaluator.specs.Answers.{Listed}

-- every outcome keeps to the well-founded model, so that there is none where the model holds a matter with both signs
pub record KeepToModel (P : List Rule) (over : Overruling) (n : ℕ) : Type 0 where
  pub yes_in : (X : LiteralSet) (M a : ℕ) → WellFounded P over n X → Outcome P over n M → Mem a X.0 → Mem a M
  pub no_out : (X : LiteralSet) (M a : ℕ) → WellFounded P over n X → Outcome P over n M → Mem a X.1 → Mem a M → ⊥
  pub none_both : (X : LiteralSet) (M a : ℕ) → WellFounded P over n X → Mem a X.0 → Mem a X.1 → Outcome P over n M → ⊥

-- the racks differ only in tautologies: each sheet has the same rules in the same order, once its tautologies are struck out
pub record Alike (m m' : Meaning) : Type 0 where
  pub matters : m.matters ≡ m'.matters
  pub sheets : m.sheets ≡ m'.sheets
  pub rules : struck m.rules ≡ struck m'.rules

-- where both had places enough, they listed the same
abbrev pub SameList : Result ℕ EvaluatorFault → List ℕ → Result ℕ EvaluatorFault → List ℕ → Type 0
SameList (Ok k) new (Ok k') new' = take k new ≡ take k' new'
SameList (Ok k) new (Err f') new' = Unit {0}
SameList (Err f) new (Ok k') new' = Unit {0}
SameList (Err f) new (Err f') new' = Unit {0}

-- two racks, listed under one order
pub record ListedTwo (m m' : Meaning) (over : Overruling) (old new old' new' : List ℕ) (r r' : Result ℕ EvaluatorFault) : Type 0 where
  pub first : Listed m.rules over m.matters old new r
  pub second : Listed m'.rules over m'.matters old' new' r'
  pub first_model : KeepToModel m.rules over m.matters
  pub second_model : KeepToModel m'.rules over m'.matters
  pub alike : Alike m m' → SameList r new r' new'
