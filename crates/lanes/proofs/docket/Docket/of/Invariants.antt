use Rattle.std.proofs.Common.{◌≡◌, length, get_or, filter}
use Rattle.rules.specs.Held.{held}
use Rattle.lanes.specs.Docketing.{Docketed}
use Rattle.lanes.proofs.Docketing.{earlier}
use Rattle.lanes.proofs.docket.Docket.of.Given as goal

abbrev pub invariant-loop-matter : goal.invariant-loop-matter
invariant-loop-matter l =
    Docketed l.rules l.matter l.docket
    × (get_or l.docket.starts l.matter 0 ≡ length (held l.docket.rules))
    × (length (held l.docket.rules) ≡ length (filter (earlier l.matter) l.rules))
