use Rattle.steps.specs.Claiming.{ClaimedEarly}
use Rattle.steps.proofs.claims.Claims.in_set.Given as goal

abbrev pub invariant-loop-r : goal.invariant-loop-r
invariant-loop-r l = ClaimedEarly l.program.rules.now l.r-index l.x l.claims
