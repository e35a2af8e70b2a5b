use Rattle.runs.proofs.Compared.{same_ends}
use Rattle.runs.proofs.replay.replay_two.Goals as goal

pub returns-clause-same : goal.returns-clause-same
returns-clause-same g c =
    same_ends g.R.OpenRack.state g.S.OpenRack.state (g.O.Order.over c.args.order.now) c.args.places c.args.starts.0 c.args.starts.1 c.args.calls.0.now c.args.calls.1.now
    c.args.list.now c.replay-one.new.list c.args.other_list.now c.replay-other.new.list c.replay-one.result c.replay-other.result
    (g.met.O.Order.total c.args.order.now) c.replay-one.ensures c.replay-other.ensures
