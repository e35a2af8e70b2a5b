use Rattle.std.proofs.Common.{◌≡◌, take, sym, ap, subst, arith}
use Rattle.rules.specs.declared.rule.Shape.{Shape}
use Rattle.report.specs.Text.{text}
use Rattle.report.specs.Reports.{Reported}
use Rattle.report.proofs.Reporting.{filled_short, reported}
use Rattle.report.proofs.report.write_report.Goals as goal

pub invariant_of-text : goal.invariant_of-text
invariant_of-text g c =
    let k = g.met.R.Rack.kept c.args.rack.now in
    let e = ap (λ (s : Shape). s.matters) c.shape-matters.ensures in
    record {
      few = omega (arith, e, k.few_matters);
      short = filled_short k.few_matters c.in_ok-count.ensures;
    }

pub returns : goal.returns
returns g c =
    let m = g.R.Rack.meaning c.args.rack.now in
    let e : c.shape-matters.result.matters ≡ m.matters = ap (λ (s : Shape). s.matters) c.shape-matters.ensures in
    subst (Reported m.rules (g.O.Order.over c.args.order.now) m.matters g.O.Order.CODE c.args.list.now c.outcomes.new.list c.args.out.now c.write.new.out)
    (sym c.ok_or.ensures.value)
    (reported c.args.out.now c.write.new.out (record {
      count = c.in_ok-count.count;
      model = c.well_founded-model.result.literals;
      filled = c.in_ok-count.ensures;
      well_founded = c.well_founded-model.ensures.well_founded;
      text_is = λ i. text (c.CODE.ensures i) (e i) (take c.in_ok-count.count c.outcomes.new.list) c.well_founded-model.result.literals;
    }) c.write.result c.write.ensures)
