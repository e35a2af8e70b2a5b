use Rattle.std.proofs.Common.{ℕ}
use Rattle.rules.proofs.Listing.{Found}
use Rattle.evaluator.specs.Finding.{From}
use Rattle.evaluator.proofs.outcomes.outcomes.Given as goal

abbrev pub invariant-loop-m : goal.invariant-loop-m
invariant-loop-m g l =
    let m = g.R.Rack.meaning l.rack in
    let over = g.O.Order.over l.order in
    record {
      below : ℕ;
      from : From m.rules over m.matters l.m-iterator below;
      found : Found m.rules over m.matters below l.count l.initial.list l.list;
    }
