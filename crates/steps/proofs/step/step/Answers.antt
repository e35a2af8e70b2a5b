use Rattle.steps.proofs.Readiness.{step_of}
use Rattle.steps.proofs.Opposing.{standing_survives}
use Rattle.steps.proofs.step.step.Goals as goal

pub returns : goal.returns
returns c = λ over t. step_of c.as_slice.ensures (standing_survives c.args.program.ready t c.in_set-claims.ensures c.survivors-standing.ensures) (c.defaults.ensures _ _ c.in_set-claims.ensures) c.closure.ensures
