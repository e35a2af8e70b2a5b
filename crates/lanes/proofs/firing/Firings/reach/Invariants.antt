use Rattle.std.proofs.Common.{◌-◌, ◌*◌, ◌^◌}
use Rattle.lanes.proofs.Reaching.{Followed, sum}
use Rattle.lanes.proofs.firing.Firings.reach.Given as goal

abbrev pub invariant-grow : goal.invariant-grow
invariant-grow l = Followed l.self.items.items l.reach.words

abbrev pub decreases-grow : goal.decreases-grow
decreases-grow l = 16 * 2 ^ 64 - sum l.reach.words
