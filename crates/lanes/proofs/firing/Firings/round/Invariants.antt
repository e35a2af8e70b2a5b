use Rattle.lanes.specs.Firing.{Rounded}
use Rattle.lanes.proofs.firing.Firings.round.Given as goal

abbrev pub invariant-loop-firing : goal.invariant-loop-firing
invariant-loop-firing l = Rounded l.firing-items l.firing-index l.initial.more.words l.more.words
