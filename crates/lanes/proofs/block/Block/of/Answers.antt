use Rattle.std.proofs.Common.{◌≡◌, ℕ, ◌+◌, subst, arith}
use lib.Bits.{bit_or}
use Rattle.steps.specs.Subsets.{part}
use Rattle.lanes.proofs.Halves.{Both, both_start, both_more, both_has}
use Rattle.lanes.proofs.block.Block.of.Goals as goal

pub loop-a-init : goal.loop-a-init
loop-a-init c = both_start _ _ c.empty-block.ensures.yes c.empty-block.ensures.no c.empty-block.ensures.some c.empty-block.ensures.varying

pub loop-a-preserved : goal.loop-a-preserved
loop-a-preserved c = both_more _ c.loop-a.a c.side_of.result c.loop-a.block _ (let l = c.loop-a-test.true in let m = c.requires.matters in omega arith) c.side_of.ensures c.put.ensures c.loop-a.invariant

pub returns : goal.returns
returns c =
    let e : c.loop-a.a ≡ c.args.matters = omega arith in
    both_has _ c.args.matters _ c.requires.small (subst (λ (k : ℕ). Both (λ l. bit_or c.args.yes (part 16 c.args.undecided (c.args.first + l))) k c.loop-a.block) e c.loop-a.invariant)
