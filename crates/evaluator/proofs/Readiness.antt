-- Every rack is ready for the search.
use Rattle.std.proofs.Common.{◌≡◌, ℕ, ◌<◌, List, sym, ◌∙◌, subst, arith}
use Rattle.rules.specs.declared.rule.Rule.{Rule}
use Rattle.rules.proofs.Computed.{each_place}
use Rattle.rules.specs.declared.rule.Shape.{Shape}
use Rattle.racks.specs.Meaning.{Meaning, Kept, shaped}
use Rattle.steps.specs.Parts.{Ready}

pub rack_ready : (m : Meaning) → Kept m → Ready m.matters m.rules
rack_ready m k = record {
  few_matters = k.few_matters;
  few_rules = k.few_rules;
  formed = each_place m.rules (λ (r : Rule). r.head < m.matters) (λ i l. (k.sound i l).1);
  low_sheets = each_place m.rules (λ (r : Rule). r.sheet < 32) (λ i l. let h = (k.sound i l).0 in let f = k.few_sheets in omega arith);
}

-- what is read of a rack is what it stands for
pub read_as : (Q : List Rule → ℕ → Type 0) (m : Meaning) {s : Shape} {P R : List Rule} → s ≡ shaped m → P ≡ R → R ≡ m.rules → Q P s.matters → Q m.rules m.matters
read_as Q m {s} {P} e f f' q = subst (λ (S : List Rule). Q S m.matters) (f ∙ f') (subst (λ (t : Shape). Q P t.matters) e q)

pub read_ready : {m : Meaning} {s : Shape} {P Q : List Rule} → Kept m → s ≡ shaped m → P ≡ Q → Q ≡ m.rules → Ready s.matters P
read_ready {m} {s} {P} {Q} k e f f' = subst (λ (t : Shape). Ready t.matters P) (sym e) (subst (Ready m.matters) (sym (f ∙ f')) (rack_ready m k))
