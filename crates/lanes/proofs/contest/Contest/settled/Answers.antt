use Rattle.rules.specs.declared.rule.Sign.TheVariants.{Yes, No}
use Rattle.lanes.proofs.Contesting.{stands_lanes}
use Rattle.lanes.proofs.contest.Contest.settled.Goals as goal

pub returns : goal.returns
returns c = λ Q over n X hears below.
    stands_lanes Q over X c.args.matter c.args.self.now hears n _ _ _ _ _ below
    (hears.has.lanes Yes c.args.matter c.requires) (hears.has.lanes No c.args.matter c.requires)
    c.unrejected-held.ensures c.unrejected.ensures c.unclaimed.ensures
