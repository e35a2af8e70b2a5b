use Rattle.evaluator.proofs.Lawful.{keep_to_model, alike_same}
use Rattle.evaluator.proofs.Readiness.{rack_ready}
use Rattle.evaluator.proofs.two.outcomes_of_two.Goals as goal

pub returns : goal.returns
returns g c =
    let total = g.met.O.Order.total c.args.order.now in
    let m = g.R.Rack.meaning c.args.left.now in
    let m' = g.S.Rack.meaning c.args.right.now in
    record {
      first = c.outcomes.ensures;
      second = c.outcomes-2.ensures;
      first_model = keep_to_model total (rack_ready m (g.met.R.Rack.kept c.args.left.now)).formed;
      second_model = keep_to_model total (rack_ready m' (g.met.S.Rack.kept c.args.right.now)).formed;
      alike = alike_same m m' (g.O.Order.over c.args.order.now) c.args.left_list.now c.outcomes.new.list c.args.right_list.now c.outcomes-2.new.list c.outcomes.result c.outcomes-2.result total c.outcomes.ensures c.outcomes-2.ensures;
    }
