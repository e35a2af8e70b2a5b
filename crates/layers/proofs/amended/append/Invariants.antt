use Rattle.std.proofs.Common.{◌≡◌, ◌++◌, map, take}
use Rattle.rules.specs.Held.{held}
use Rattle.layers.specs.Over.{raised}
use Rattle.layers.proofs.amended.append.Given as goal

abbrev pub invariant-loop-rule : goal.invariant-loop-rule
invariant-loop-rule l = held l.table ≡ held l.initial.table ++ map (raised l.floor) (take l.rule-index l.own)
