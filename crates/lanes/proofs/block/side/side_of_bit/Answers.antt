use Rattle.std.proofs.Common.{sym, ◌∙◌, subst}
use Rattle.std.proofs.lemmas.Bool.Decides.{not_from_Decides}
use Rattle.rules.specs.Semantics.{Mem}
use Rattle.lanes.proofs.Sides.{lanes_with_bit, high_bit}
use Rattle.lanes.proofs.block.side.side_of_bit.Goals as goal

pub returns-then-bit-lt6 : goal.returns-then-bit-lt6
returns-then-bit-lt6 c = lanes_with_bit c.args.bit c.args.first c.if-bit-lt6.true c.requires.first

pub returns-then-has : goal.returns-then-has
returns-then-has c = λ l b. high_bit c.args.bit c.args.first l c.if-bit-lt6.false b c.requires.first ∙ subst (Mem c.args.bit) c.into.ensures (c.has.ensures.0 c.if-has.true)

pub returns-else-has : goal.returns-else-has
returns-else-has c = λ l b m. not_from_Decides c.has.result c.has.ensures c.if-has.false (subst (Mem c.args.bit) (sym c.into.ensures) (sym (high_bit c.args.bit c.args.first l c.if-bit-lt6.false b c.requires.first) ∙ m))
