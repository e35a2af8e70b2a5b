use Rattle.std.proofs.Common.{sym, subst}
use Rattle.lanes.specs.Firing.{Low}
use Rattle.lanes.proofs.Reaching.{low_none}
use Rattle.lanes.proofs.firing.Firings.none.Goals as goal

pub invariant_of-result : goal.invariant_of-result
invariant_of-result c = record { low = subst Low (sym c.new-items.ensures) low_none }
