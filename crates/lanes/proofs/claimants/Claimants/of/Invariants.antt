use Rattle.std.proofs.Common.{ℕ}
use Rattle.rules.specs.Semantics.{LiteralSet}
use Rattle.lanes.specs.Blocks.{Has}
use Rattle.lanes.specs.Claiming.{Gathered}
use Rattle.lanes.proofs.claimants.Claimants.of.Given as goal

abbrev pub invariant-loop-r : goal.invariant-loop-r
invariant-loop-r l = (X : ℕ → LiteralSet) → Has X l.block → Gathered l.rules l.r-index X l.sign l.claimants
