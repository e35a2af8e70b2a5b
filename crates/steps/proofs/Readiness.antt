-- The rules that survive are ready for the closure, which is then the step.
use Rattle.std.proofs.Common.{◌≡◌, ℕ, List, subst, arith}
use Rattle.rules.specs.declared.rule.Rule.{Rule}
use Rattle.rules.specs.Semantics.{LiteralSet, Mem, ◌∈◌, Overruling, Survives, Default, Closure, Step}
use Rattle.rules.proofs.Theory.{closure_same}
use Rattle.steps.specs.Parts.{Members, SetOf, Ready}

pub ready_wide : {n : ℕ} {P : List Rule} → Ready n P → Ready 16 P
ready_wide ready = record { few_matters = omega arith; few_rules = ready.few_rules; formed = λ r m. (let h = ready.formed r m in let k = ready.few_matters in omega arith); low_sheets = ready.low_sheets }

-- the closure of the rules that survive, gathered in a list, and of the defaults, gathered in a set, is the step
pub step_of : {P Q R : List Rule} {over : Overruling} {n m : ℕ} {X Y : LiteralSet} → R ≡ Q → Members Q (Survives P over X) → SetOf m (Default P n X) → Closure (λ r. r ∈ R) (λ a. Mem a m) Y → Step P over n X Y
step_of {P} {Q} {R} {over} {n} {m} {X} {Y} e s d c = closure_same s.only s.all d.only d.all (subst (λ (S : List Rule). Closure (λ r. r ∈ S) (λ a. Mem a m) Y) e c)
