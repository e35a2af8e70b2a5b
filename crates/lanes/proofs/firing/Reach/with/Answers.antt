use Rattle.std.proofs.Common.{refl, arith}
use Rattle.rules.proofs.Bitwise.{mem_below}
use Rattle.lanes.proofs.Reaching.{fired_one}
use Rattle.lanes.proofs.firing.Reach.with.Goals as goal

pub all_of-met-requires : goal.all_of-met-requires
all_of-met-requires c = λ j h. let l = mem_below 16 c.args.firing.needs j (omega arith) h in let e = c.args.self.whole in omega arith

pub returns : goal.returns
returns c = fired_one c.args.firing c.args.self.words _ c.all_of-met.result (let e = c.args.self.whole in omega arith) c.all_of-met.ensures refl
