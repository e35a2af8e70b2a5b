use Rattle.std.proofs.Common.{◌+◌, ◌-◌, ◌^◌}
use Rattle.rules.proofs.Theory.{Below}
use Rattle.steps.proofs.closure.closure.Given as goal

abbrev pub invariant-grow : goal.invariant-grow
invariant-grow l = Below l.rules l.defaults l.y

abbrev pub decreases-grow : goal.decreases-grow
decreases-grow l = 2 ^ 17 - (l.y.0 + l.y.1)
