use Rattle.std.proofs.Common.{arith}
use Rattle.lanes.proofs.LaneSets.{set_not}
use Rattle.lanes.proofs.contest.Contest.unclaimed.Goals as goal

pub returns : goal.returns
returns c = set_not (omega arith) c.among.ensures
