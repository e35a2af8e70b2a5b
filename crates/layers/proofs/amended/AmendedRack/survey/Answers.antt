use Rattle.std.proofs.Common.{List, ◌++◌, map, ap, ◌∙◌}
use Rattle.rules.specs.declared.rule.Rule.{Rule}
use Rattle.rules.specs.Held.{held}
use Rattle.laying.specs.Pocketing.{pocket_meaning}
use Rattle.layers.specs.Over.{raised}
use Rattle.layers.specs.OverLemmas.{shaped_amended, rules_with_own, rules_without}
use Rattle.layers.proofs.amended.AmendedRack.survey.Goals as goal
use Rattle.layers.proofs.amended.AmendedRack.survey.Goals.{then-fits, else-fits}

pub returns : goal.returns
returns g c =
    let s = c.args.self.now in
    let m = g.R.Rack.meaning s.below in
    let o = pocket_meaning s.own in
    let x = c.survey.result.0 in
    let y = c.shape-own.result in
    record {
      shape = shaped_amended m o x y _ c.survey.ensures.shape c.shape-own.ensures c.on_top.ensures;
      rules = elim c.if-fits.branch [
        | then-fits w ↦ ap held w.table-is ∙ rules_with_own m o x y _ c.survey.ensures.shape c.shape-own.ensures w.if-fits.ensures (w.append.ensures ∙ ap (λ (P : List Rule). P ++ map (raised x.sheets) w.as_slice.result.now) c.survey.ensures.rules ∙ ap (λ (Q : List Rule). m.rules ++ map (raised x.sheets) Q) (w.as_slice.ensures ∙ w.read.ensures))
        | else-fits w ↦ ap held w.table-is ∙ rules_without m o x y _ c.survey.ensures.shape c.shape-own.ensures w.if-fits.ensures c.survey.ensures.rules
      ];
    }
