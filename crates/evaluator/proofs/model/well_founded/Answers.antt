use Rattle.steps.specs.Modelling.{Modelled}
use Rattle.evaluator.proofs.Readiness.{read_ready, read_as}
use Rattle.evaluator.proofs.model.well_founded.Goals as goal

pub invariant_of-program : goal.invariant_of-program
invariant_of-program g c = record { ready = read_ready (g.met.R.Rack.kept c.args.rack.now) c.survey.ensures.shape c.as_slice.ensures c.survey.ensures.rules }

pub settle-requires : goal.settle-requires
settle-requires g c = (g.O.Order.over c.args.order.now, c.of.ensures)

pub returns : goal.returns
returns g c =
    let over = g.O.Order.over c.args.order.now in
    read_as (λ P n. Modelled P over n c.settle.result) (g.R.Rack.meaning c.args.rack.now) c.survey.ensures.shape c.as_slice.ensures c.survey.ensures.rules (c.settle.ensures over c.of.ensures)
