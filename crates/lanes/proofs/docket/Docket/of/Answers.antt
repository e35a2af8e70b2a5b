use Rattle.std.proofs.Common.{arith}
use Rattle.lanes.proofs.Docketing.{docketed_start, docketed_more, room_for}
use Rattle.lanes.proofs.docket.Docket.of.Goals as goal

pub loop-matter-init : goal.loop-matter-init
loop-matter-init c = docketed_start _ _ c.empty-docket.ensures.rules c.empty-docket.ensures.starts

pub add-requires-clause-room : goal.add-requires-clause-room
add-requires-clause-room c = room_for c.args.rules.now c.loop-matter.matter _ c.requires.few c.loop-matter.invariant.2

pub loop-matter-preserved : goal.loop-matter-preserved
loop-matter-preserved c = docketed_more c.args.rules.now c.loop-matter.matter c.loop-matter.docket _ (omega arith) c.loop-matter.invariant.0 c.loop-matter.invariant.1 c.loop-matter.invariant.2 c.add.ensures.rules c.add.ensures.starts
