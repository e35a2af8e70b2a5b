use Rattle.std.proofs.Common.{◌≡◌, ◌++◌, map, take}
use Rattle.rules.specs.Held.{held}
use Rattle.kiosk.specs.Slip.{fact_rule}
use Rattle.kiosk.proofs.slip.Slip.append_to.Given as goal

abbrev pub invariant-loop-fact : goal.invariant-loop-fact
invariant-loop-fact l = held l.table ≡ held l.initial.table ++ map (fact_rule l.sheet) (take l.fact-index l.self.facts.items)
