use Rattle.std.proofs.Common.{rules, refl, arith}
use Rattle.rules.specs.declared.rule.Sign.TheVariants.{Yes, No}
use Rattle.steps.proofs.Opposing.{noted_add}
use Rattle.steps.proofs.claims.Claims.note.Goals as goal

pub returns-in-Yes : goal.returns-in-Yes
returns-in-Yes c = noted_add Yes c.in-Yes.is (c.body_true.ensures.0 c.if-body_true.true) (omega arith) (record { here = search rules; there = refl })

pub returns-in-No : goal.returns-in-No
returns-in-No c = noted_add No c.in-No.is (c.body_true.ensures.0 c.if-body_true.true) (omega arith) (record { here = search rules; there = refl })
