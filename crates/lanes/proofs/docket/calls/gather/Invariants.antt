use Rattle.std.proofs.Common.{◌≡◌, ◌++◌, take, filter}
use Rattle.rules.specs.Held.{held}
use Rattle.lanes.specs.Docketing.{about}
use Rattle.lanes.proofs.docket.calls.gather.Given as goal

abbrev pub invariant-loop-r : goal.invariant-loop-r
invariant-loop-r l = held l.table ≡ held l.initial.table ++ filter (about l.matter) (take l.r-index l.rules)
