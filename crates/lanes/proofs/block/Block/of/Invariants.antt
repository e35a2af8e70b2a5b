use Rattle.std.proofs.Common.{◌+◌}
use lib.Bits.{bit_or}
use Rattle.steps.specs.Subsets.{part}
use Rattle.lanes.proofs.Halves.{Both}
use Rattle.lanes.proofs.block.Block.of.Given as goal

abbrev pub invariant-loop-a : goal.invariant-loop-a
invariant-loop-a l = Both (λ k. bit_or l.yes (part 16 l.undecided (l.first + k))) l.a l.block
