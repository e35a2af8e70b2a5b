use Rattle.std.proofs.Common.{List, refl, subst}
use Rattle.rules.specs.declared.rule.Rule.{Rule}
use Rattle.rules.specs.Held.{held}
use Rattle.rules.specs.Semantics.{WellFounded}
use Rattle.steps.specs.Parts.{Ready}
use Rattle.evaluator.proofs.Between.{tried_below, from_start, from_read}
use Rattle.evaluator.proofs.Readiness.{read_ready}
use Rattle.evaluator.proofs.finder.Finder.new.Goals as goal

pub invariant_of-program : goal.invariant_of-program
invariant_of-program g c = record { ready = read_ready (g.met.R.Rack.kept c.args.rack.now) c.survey.ensures.shape c.as_slice.ensures c.survey.ensures.rules }

pub settle-requires : goal.settle-requires
settle-requires g c = (g.O.Order.over c.args.order.now, c.of-overrulers.ensures)

pub invariant_of-candidates-clause-ready : goal.invariant_of-candidates-clause-ready
invariant_of-candidates-clause-ready g c = read_ready (g.met.R.Rack.kept c.args.rack.now) c.survey.ensures.shape refl c.survey.ensures.rules

pub invariant_of-candidates-clause-below : goal.invariant_of-candidates-clause-below
invariant_of-candidates-clause-below g c =
    let over = g.O.Order.over c.args.order.now in
    let ready : Ready c.survey.result.0.matters (held c.survey.result.1) = read_ready (g.met.R.Rack.kept c.args.rack.now) c.survey.ensures.shape refl c.survey.ensures.rules in
    let model = (c.settle.ensures over c.of-overrulers.ensures).well_founded in
    tried_below (g.met.O.Order.total c.args.order.now) ready.formed ready.few_matters (subst (λ (P : List Rule). WellFounded P over c.survey.result.0.matters c.settle.result.literals) c.as_slice.ensures model) c.undecided-undecided.ensures

pub returns : goal.returns
returns g c =
    let over = g.O.Order.over c.args.order.now in
    let model = (c.settle.ensures over c.of-overrulers.ensures).well_founded in
    from_read (g.R.Rack.meaning c.args.rack.now) c.survey.ensures.shape c.survey.ensures.rules refl
    (from_start _ c.settle.result.literals.1 (g.met.O.Order.total c.args.order.now)
    (subst (λ (P : List Rule). WellFounded P over c.survey.result.0.matters c.settle.result.literals) c.as_slice.ensures model)
    c.of-overrulers.ensures.broad c.undecided-undecided.ensures refl c.parts.ensures)
