use Rattle.std.proofs.Common.{sym, subst, ⊎_elim, arith}
use Rattle.std.proofs.lemmas.Bool.Decides.{not_from_Decides}
use Rattle.rules.specs.Semantics.{Mem}
use Rattle.rules.proofs.Bitwise.{mem_or_left, mem_or_cases}
use Rattle.lanes.proofs.Sides.{takes_same, has_by_bit, bit_by_has}
use Rattle.steps.proofs.Subsets.{rank_le, part_within}
use Rattle.lanes.proofs.block.make.side_of.Goals as goal

pub side_of_bit-requires-clause-bit : goal.side_of_bit-requires-clause-bit
side_of_bit-requires-clause-bit c = let r = rank_le c.args.undecided c.args.a in let e = c.rank.ensures in let l = c.requires.matter in omega arith

pub returns-then-has : goal.returns-then-has
returns-then-has c =
    let u = subst (Mem c.args.a) c.into.ensures (c.has.ensures.0 c.if-has.true) in
    takes_same c.side_of_bit.result
    (λ l m. has_by_bit c.args.yes c.args.undecided _ c.args.a c.rank.result c.requires.matter c.rank.ensures u m)
    (λ l m. bit_by_has c.args.yes c.args.undecided _ c.args.a c.rank.result c.requires.matter c.rank.ensures (λ y. c.requires.apart y u) m)
    c.side_of_bit.ensures

pub returns-then-has-2 : goal.returns-then-has-2
returns-then-has-2 c = λ l b. mem_or_left c.args.a c.args.yes _ (subst (Mem c.args.a) c.into-else-has.ensures (c.has-else-has.ensures.0 c.if-has-2.true))

pub returns-else-has-2 : goal.returns-else-has-2
returns-else-has-2 c = λ l b m. ⊎_elim
    (λ y. not_from_Decides c.has-else-has.result c.has-else-has.ensures c.if-has-2.false (subst (Mem c.args.a) (sym c.into-else-has.ensures) y))
    (λ p. not_from_Decides c.has.result c.has.ensures c.if-has.false (subst (Mem c.args.a) (sym c.into.ensures) (part_within 16 c.args.undecided _ c.args.a p)))
    (mem_or_cases c.args.a c.args.yes _ m)
