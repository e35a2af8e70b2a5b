use Rattle.std.proofs.Common.{take, filter, ap, ◌∙◌}
use Rattle.std.proofs.lemmas.List.{take_all}
use Rattle.rules.specs.Held.{held}
use Rattle.rules.proofs.Computed.{placed}
use Rattle.rules.proofs.Filtering.{filtered_push, filtered_skip}
use Rattle.rules.proofs.table.Table.filtered.Goals as goal
use Rattle.rules.proofs.table.Table.filtered.Goals.{then-wanted, else-wanted}

pub wanted-requires : goal.wanted-requires
wanted-requires g c = c.requires _ (placed _ _ _ c.loop-rule-test.true)

pub loop-rule-preserved : goal.loop-rule-preserved
loop-rule-preserved g c = λ test acts.
    let m = placed _ _ _ c.loop-rule-test.true in
    elim c.if-wanted.branch [
      | then-wanted w ↦ ap held w.table-is ∙ filtered_push test c.args.rules.now _ _ c.loop-rule.rule-index w.push.result c.loop-rule-test.true (acts _ _ m w.if-wanted.ensures) (c.loop-rule.invariant test acts) w.push.ensures.value w.push.ensures.after
      | else-wanted w ↦ ap held w.table-is ∙ filtered_skip test c.args.rules.now _ c.loop-rule.rule-index c.loop-rule-test.true (acts _ _ m w.if-wanted.ensures) (c.loop-rule.invariant test acts)
    ]

pub returns : goal.returns
returns g c = λ test acts. c.loop-rule.invariant test acts ∙ ap (λ P. take 256 (filter test P)) (take_all c.loop-rule.rule-index c.args.rules.now c.loop-rule-test.false)
