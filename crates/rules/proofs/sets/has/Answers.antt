use Rattle.std.proofs.Common.{arith}
use Rattle.std.proofs.lemmas.Bool.{ltb-true}
use Rattle.rules.proofs.Bitwise.{mem_below}
use Rattle.rules.proofs.sets.has.Goals as goal

-- a set of 64 bits has no matter from 64 on
pub returns-else-member-lt64 : goal.returns-else-member-lt64
returns-else-member-lt64 c = (
  λ e. absurd (let l = ltb-true c.args.member 64 e in omega arith),
  λ m. absurd (let l = mem_below 64 c.args.set c.args.member (omega arith) m in omega arith),
)
