-- What each matter owes to a two-valued set that the broad step leaves as it is.
use Rattle.std.specs.Prelude.{◌≡◌, ℕ, ◌⊎◌, List}
use Rattle.rules.specs.declared.rule.Rule.{Rule}
use Rattle.rules.specs.declared.rule.Sign.{Sign}
use Rattle.rules.specs.declared.rule.Sign.TheVariants.{Yes, No}
use Rattle.rules.specs.Semantics.{LiteralSet, Holds, ◌⊆◌, body, Overruling, Survives, Default}

-- a rule with this head survives in X, and its body is true there
pub record Backed (Q : List Rule) (over : Overruling) (X : LiteralSet) (s : Sign) (a : ℕ) : Type 0 where
  pub backer : Rule
  pub survives : Survives Q over X backer
  pub body_true : body backer ⊆ X
  pub sign_is : backer.sign ≡ s
  pub head_is : backer.head ≡ a

-- X holds a, which is backed, or "no a", which is backed or a default
abbrev pub Stands : List Rule → Overruling → ℕ → LiteralSet → ℕ → Type 0
Stands Q over n X a = (Holds X Yes a × Backed Q over X Yes a) ⊎ (Holds X No a × (Backed Q over X No a ⊎ Default Q n X a))
