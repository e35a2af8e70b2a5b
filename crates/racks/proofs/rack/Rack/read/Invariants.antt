use Rattle.std.proofs.Common.{◌≡◌, take}
use Rattle.rules.specs.Held.{held}
use Rattle.racks.proofs.rack.Rack.read.Given as goal

abbrev pub invariant-loop-place : goal.invariant-loop-place
invariant-loop-place g l = held l.table ≡ take l.place (g.Self.Rack.meaning l.self).rules
