use Rattle.std.proofs.Common.{ap, ◌∙◌, length, arith}
use Rattle.lanes.specs.Members.{member_list}
use Rattle.lanes.proofs.MemberLists.{first_listed, none_listed}
use Rattle.lanes.proofs.members.MembersIterator.next.Goals as goal

pub returns-then-self-eq0-clause-steps : goal.returns-then-self-eq0-clause-steps
returns-then-self-eq0-clause-steps c = let e = ap member_list c.if-self-eq0.true ∙ none_listed in (e, e)

pub returns-clause-steps : goal.returns-clause-steps
returns-clause-steps c = first_listed c.args.self.now.rest (omega arith) c.if-self-eq0.false

pub returns-clause-goes : goal.returns-clause-goes
returns-clause-goes c = let e = ap length (first_listed c.args.self.now.rest (omega arith) c.if-self-eq0.false) in record { on = λ _. (tt, tt, omega arith); keeps = tt; rests = λ _. tt }
