use Rattle.std.proofs.Common.{arith}
use Rattle.rules.proofs.Bitwise.{mem_and_left, mem_below}
use Rattle.lanes.proofs.Bodies.{body_lanes}
use Rattle.lanes.proofs.block.Block.body_true.Goals as goal

pub all_of-yes-requires : goal.all_of-yes-requires
all_of-yes-requires c = λ j h. let l = mem_below 16 c.args.rule.yes j (omega arith) (mem_and_left j c.args.rule.yes c.args.self.now.varying h) in let e = c.args.self.now.whole in omega arith

pub all_of-no-requires : goal.all_of-no-requires
all_of-no-requires c = λ j h. let l = mem_below 16 c.args.rule.no j (omega arith) (mem_and_left j c.args.rule.no c.args.self.now.varying h) in let e = c.args.self.now.complete in omega arith

pub returns : goal.returns
returns c = λ X h. body_lanes X c.args.self.now c.args.rule h _ _ (omega arith) (omega arith) (c.body_true.ensures.0 c.if-not-body_true.false) c.all_of-yes.ensures c.all_of-no.ensures
