use Rattle.std.proofs.Common.{sym, subst, arith}
use Rattle.lanes.specs.Firing.{Low}
use Rattle.lanes.proofs.Reaching.{low_push}
use Rattle.lanes.proofs.firing.Firings.push.Goals as goal

pub invariant_of-self : goal.invariant_of-self
invariant_of-self c = record { low = subst Low (sym c.push.ensures.items) (low_push c.args.self.now.items.items c.args.firing c.requires.head (omega arith) c.args.self.now.low) }
