use Rattle.std.proofs.Common.{ap, ◌∙◌}
use Rattle.rules.specs.Held.{held}
use Rattle.lanes.specs.Docketing.{about}
use Rattle.lanes.proofs.Docketing.{kept_push, kept_skip}
use Rattle.lanes.proofs.docket.calls.gather.Goals as goal
use Rattle.lanes.proofs.docket.calls.gather.Goals.{then-is_about, else-is_about}

pub loop-r-preserved : goal.loop-r-preserved
loop-r-preserved c =
    let p = about c.args.matter in
    let P = c.args.rules.now in
    elim c.if-is_about.branch [
      | then-is_about w ↦ ap held w.table-is ∙ kept_push p P (held c.args.table.now) _ _ c.loop-r.r-index w.push.result c.loop-r-test.true c.requires.room w.if-is_about.ensures c.loop-r.invariant w.push.ensures.value w.push.ensures.after
      | else-is_about w ↦ ap held w.table-is ∙ kept_skip p P (held c.args.table.now) _ c.loop-r.r-index c.loop-r-test.true w.if-is_about.ensures c.loop-r.invariant
    ]
