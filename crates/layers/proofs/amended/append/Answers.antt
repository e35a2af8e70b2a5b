use Rattle.std.proofs.Common.{List, ◌++◌, map, ap, ◌∙◌}
use Rattle.std.proofs.lemmas.List.{take_all}
use Rattle.rules.specs.declared.rule.Rule.{Rule}
use Rattle.rules.specs.Held.{held}
use Rattle.layers.specs.Over.{raised}
use Rattle.layers.specs.OverLemmas.{raised_more}
use Rattle.layers.proofs.amended.append.Goals as goal

pub loop-rule-preserved : goal.loop-rule-preserved
loop-rule-preserved c = raised_more c.args.floor c.loop-rule.rule-index (held c.args.table.now) c.args.own.now (held c.loop-rule.table) (held c.push.new.self) c.push.result c.loop-rule-test.true c.requires.room c.loop-rule.invariant c.push.ensures.value c.push.ensures.after

pub returns : goal.returns
returns c = c.loop-rule.invariant ∙ ap (λ (Q : List Rule). held c.args.table.now ++ map (raised c.args.floor) Q) (take_all c.loop-rule.rule-index c.args.own.now c.loop-rule-test.false)
