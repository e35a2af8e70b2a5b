use Rattle.std.proofs.Common.{sym, subst}
use Rattle.lanes.specs.Firing.{Low}
use Rattle.lanes.proofs.Reaching.{round_more}
use Rattle.lanes.proofs.firing.Firings.round.Goals as goal

pub loop-firing-preserved : goal.loop-firing-preserved
loop-firing-preserved c = round_more _ c.loop-firing.firing-index _ _ _ c.loop-firing-test.true (subst Low (sym c.as_slice-firing-items.ensures.value) c.args.self.now.low) c.loop-firing.invariant c.with-more.ensures
