use Rattle.steps.proofs.Gathering.{Gathered}
use Rattle.steps.proofs.bits.those.Given as goal

abbrev pub invariant-loop-a : goal.invariant-loop-a
invariant-loop-a g l = Gathered (goal.F-post g l.wanted) l.a l.set
