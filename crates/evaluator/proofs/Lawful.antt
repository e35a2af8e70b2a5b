-- The laws hold.
use Rattle.std.proofs.Common.{ℕ, List, take, Ok, Err, Result, sym, subst}
use Rattle.rules.specs.declared.rule.Rule.{Rule}
use Rattle.rules.specs.Semantics.{Overruling, Total, Formed, Lists}
use Rattle.rules.proofs.Theory.{outcome_between}
use Rattle.rules.proofs.Tautologies.{equal_struck, same_lists}
use Rattle.racks.specs.Meaning.{Meaning}
use Rattle.evaluator.specs.declared.answer.EvaluatorFault.{EvaluatorFault}
use Rattle.evaluator.specs.Answers.{Listed}
use Rattle.evaluator.specs.Laws.{KeepToModel, Alike, SameList}

pub keep_to_model : {P : List Rule} {over : Overruling} {n : ℕ} → Total over → Formed n P → KeepToModel P over n
keep_to_model total formed = record {
  yes_in = λ X M a w o h. (outcome_between total formed o w).0 a h;
  no_out = λ X M a w o h. (outcome_between total formed o w).1 a h;
  none_both = λ X M a w h k o. (outcome_between total formed o w).1 a k ((outcome_between total formed o w).0 a h);
}

pub alike_same : (m m' : Meaning) (over : Overruling) (old new old' new' : List ℕ) (r r' : Result ℕ EvaluatorFault) → Total over
    → Listed m.rules over m.matters old new r → Listed m'.rules over m'.matters old' new' r' → Alike m m' → SameList r new r' new'
alike_same m m' over old new old' new' (Ok k) (Ok k') total l l' e =
    same_lists total (equal_struck m.rules m'.rules e.rules) l.front (subst (λ (n : ℕ). Lists m'.rules over n (take k' new')) (sym e.matters) l'.front)
alike_same m m' over old new old' new' (Ok k) (Err f') total l l' e = tt
alike_same m m' over old new old' new' (Err f) (Ok k') total l l' e = tt
alike_same m m' over old new old' new' (Err f) (Err f') total l l' e = tt
