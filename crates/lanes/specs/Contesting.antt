-- The two sides of a contest about a matter.
use Rattle.std.specs.Prelude.{◌≡◌, ℕ, List, length, slice_index}
use Rattle.rules.specs.declared.rule.Rule.{Rule}
use Rattle.rules.specs.declared.rule.Sign.{Sign}
use Rattle.rules.specs.declared.rule.Sign.TheVariants.{Yes, No}
use Rattle.rules.specs.Semantics.{Mem, LiteralSet, ◌∈◌, opposite, Overruling}
use Rattle.steps.specs.Parts.{Tabled, Members}
use Rattle.lanes.specs.Blocks.{Has}
use Rattle.lanes.specs.declared.claimants.Claimants.{Claimants}
use Rattle.lanes.specs.declared.contest.Contest.{Contest}
use Rattle.lanes.specs.Claiming.{Gathered, Among}

abbrev pub side : Sign → Contest → Claimants
side Yes c = c.yes
side No c = c.no

pub record Contested (X : ℕ → LiteralSet) (c : Contest) : Type 0 where
  pub each : (s : Sign) → Gathered c.rules.now (length c.rules.now) X s (side s c)

-- a sheet claims the literal in the lane, and no sheet that overrules it claims the opposite
pub record Unrejected (c : Contest) (s : Sign) (l j : ℕ) : Type 0 where
  pub claims : Mem l (slice_index (side s c).lanes j)
  pub unopposed : Among (side (opposite s) c) (slice_index c.overrulers.now j) l → ⊥

-- r is a rule of Q about a
abbrev pub About : List Rule → ℕ → Rule → Type 0
About Q a r = (r ∈ Q) × (r.head ≡ a)

-- c is the contest about a of the rules Q, in the sets X under the relation `over`
pub record Hears (Q : List Rule) (over : Overruling) (X : ℕ → LiteralSet) (a : ℕ) (c : Contest) : Type 0 where
  pub has : Has X c.block.now
  pub tabled : Tabled over c.overrulers.now
  pub about : Members c.rules.now (About Q a)
  pub contested : Contested X c
