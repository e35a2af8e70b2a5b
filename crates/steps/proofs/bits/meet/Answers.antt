use Rattle.steps.proofs.SetOfs.{decides_meet}
use Rattle.steps.proofs.bits.meet.Goals as goal

pub returns : goal.returns
returns c = decides_meet c.args.x c.args.y
