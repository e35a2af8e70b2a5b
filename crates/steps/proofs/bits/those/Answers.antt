use Rattle.std.proofs.Common.{arith}
use Rattle.steps.proofs.Gathering.{with_one, without_one}
use Rattle.steps.proofs.bits.those.Goals as goal
use Rattle.steps.proofs.bits.those.Goals.{then-wanted, else-wanted}

pub loop-a-preserved : goal.loop-a-preserved
loop-a-preserved g c = elim c.if-wanted.branch [
  | then-wanted w ↦ rw w.set-is (with_one (omega arith) c.loop-a.invariant w.if-wanted.ensures)
  | else-wanted w ↦ rw w.set-is (without_one c.loop-a.invariant w.if-wanted.ensures)
]
