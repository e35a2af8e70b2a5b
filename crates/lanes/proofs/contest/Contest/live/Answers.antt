use Rattle.std.proofs.Common.{arith}
use Rattle.lanes.proofs.Contesting.{live_lanes}
use Rattle.lanes.proofs.contest.Contest.live.Goals as goal

pub returns : goal.returns
returns c = λ Q over X a hears. live_lanes Q over X a c.args.self.now hears c.args.r _ _ c.requires (omega arith) (c.body_true.ensures X hears.has) c.against.ensures
