use Rattle.rules.proofs.Computed.{placed}
use Rattle.steps.proofs.Readiness.{ready_wide}
use Rattle.steps.proofs.claims.Claims.in_set.Goals as goal

pub note-requires : goal.note-requires
note-requires c =
    let ready = ready_wide c.args.program.ready in
    let m = placed _ _ _ c.loop-r-test.true in
    record { head = ready.formed _ m; sheet = ready.low_sheets _ m }
