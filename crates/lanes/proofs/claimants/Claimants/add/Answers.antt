use Rattle.std.proofs.Common.{refl, arith}
use Rattle.lanes.proofs.Gathering.{added_some, noted_more}
use Rattle.lanes.proofs.claimants.Claimants.add.Goals as goal

pub returns-then-lanes-ne0 : goal.returns-then-lanes-ne0
returns-then-lanes-ne0 c = added_some c.args.sheet c.args.lanes c.args.self.now _ (let e = c.args.self.now.whole in omega arith) refl

pub invariant_of-self-clause-noted : goal.invariant_of-self-clause-noted
invariant_of-self-clause-noted c = noted_more c.args.sheet c.args.lanes c.args.self.now (let e = c.args.self.now.whole in omega arith) c.requires
