-- Notions for the contracts of the code that computes a step: its parts.
use Rattle.std.specs.Prelude.{ℕ, ◌^◌, List, bit_or}
use Rattle.rules.specs.declared.rule.Rule.{Rule}
use Rattle.rules.specs.declared.rule.Sign.{Sign}
use Rattle.rules.specs.declared.rule.Sign.TheVariants.{Yes, No}
use Rattle.rules.specs.Semantics.{LiteralSet, Holds, ◌⊆◌, ◌∈◌, body}

-- X with one literal more
abbrev pub plus : LiteralSet → Sign → ℕ → LiteralSet
plus X Yes a = (bit_or X.0 (2 ^ a), X.1)
plus X No a = (X.0, bit_or X.1 (2 ^ a))

-- Z is Y with the heads of the rules of Q whose body is true in Y: the least such set
pub record Round (Q : List Rule) (Y Z : LiteralSet) : Type 0 where
  pub keeps : Y ⊆ Z
  pub heads : (r : Rule) → r ∈ Q → body r ⊆ Y → Holds Z r.sign r.head
  pub least : (W : LiteralSet) → Y ⊆ W → ((r : Rule) → r ∈ Q → body r ⊆ Y → Holds W r.sign r.head) → Z ⊆ W

-- what a read past the end of a list of rules gives
abbrev pub no_rule : Rule
no_rule = record { sheet = 0; head = 0; sign = No; yes = 0; no = 0 }
