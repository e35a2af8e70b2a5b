use Rattle.std.proofs.Common.{arith}
use Rattle.rules.proofs.Bitwise.{mem_and_right, mem_below}
use Rattle.lanes.proofs.Gathering.{among_set}
use Rattle.lanes.proofs.claimants.Claimants.among.Goals as goal

pub any_of-requires : goal.any_of-requires
any_of-requires c = λ j h. let l = mem_below 32 c.args.set j (omega arith) (mem_and_right j c.args.self.now.sheets c.args.set h) in let e = c.args.self.now.whole in omega arith

pub returns : goal.returns
returns c = among_set c.args.self.now c.args.set c.any_of.result c.any_of.ensures
