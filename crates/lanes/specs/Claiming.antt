-- Which sheets claim a literal, lane by lane.
use Rattle.std.specs.Prelude.{◌≡◌, ℕ, ◌<◌, ◌⊎◌, List, ◌≢◌, slice_index, slice_index_or}
use Rattle.rules.specs.declared.rule.Rule.{Rule}
use Rattle.rules.specs.declared.rule.Sign.{Sign}
use Rattle.rules.specs.Parts.{no_rule}
use Rattle.rules.specs.Semantics.{Mem, LiteralSet, ◌⊆◌, body}
use Rattle.steps.specs.Parts.{SetOf}
use Rattle.lanes.specs.declared.claimants.Claimants.{Claimants}

-- the rule has this sign and stands on sheet j, and its body is true in X
pub record Asserts (r : Rule) (X : LiteralSet) (s : Sign) (j : ℕ) : Type 0 where
  pub sign_is : r.sign ≡ s
  pub sheet_is : r.sheet ≡ j
  pub body_true : body r ⊆ X

-- one of the first i rules does so
abbrev pub Asserted : List Rule → ℕ → LiteralSet → Sign → ℕ → Type 0
Asserted rs i X s j = (k : ℕ) × (k < i) × Asserts (slice_index_or rs k no_rule) X s j

-- c has the lanes in which the first i rules assert the sign, sheet by sheet
pub record Gathered (rs : List Rule) (i : ℕ) (X : ℕ → LiteralSet) (s : Sign) (c : Claimants) : Type 0 where
  pub lanes : (j : ℕ) → j < 32 → SetOf (slice_index c.lanes j) (λ l. (l < 64) × Asserted rs i (X l) s j)

-- d has the lanes w for sheet j besides what c has
pub record Added (j w : ℕ) (c d : Claimants) : Type 0 where
  pub here : SetOf (slice_index d.lanes j) (λ l. Mem l (slice_index c.lanes j) ⊎ Mem l w)
  pub there : (i : ℕ) → (i ≢ j) → slice_index d.lanes i ≡ slice_index c.lanes i

-- a sheet of the set has the lane
abbrev pub Among : Claimants → ℕ → ℕ → Type 0
Among c set l = (j : ℕ) × Mem j set × Mem l (slice_index c.lanes j)
