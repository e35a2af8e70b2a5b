use Rattle.std.proofs.Common.{rules}
use Rattle.rules.specs.Semantics.{strictly}
use Rattle.steps.specs.Parts.{SetOf, Overrules, Tabled}
use Rattle.steps.proofs.Filled.{filled}
use Rattle.steps.proofs.overrulers.Overrulers.of.Goals as goal

pub returns : goal.returns
returns g c =
    let over = g.O.Order.over c.args.order.now in
    let t : Tabled over c.from_fn-broad.result = record { each = filled _ (λ i m. SetOf m (Overrules over i)) _ 32 (λ i m q l k. search rules) 0 c.from_fn-broad.ensures.items } in
    record {
      broad = t;
      narrow = record { each = filled _ (λ i m. SetOf m (Overrules (strictly over) i)) _ 32 (λ i m q l k. search (rules, t)) 0 c.from_fn-narrow.ensures.items };
    }
