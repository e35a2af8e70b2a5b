use Rattle.std.proofs.Common.{get_or, arith, below_more}
use Rattle.std.proofs.lemmas.Bool.Decides.{not_from_Decides}
use Rattle.rules.specs.declared.rule.Rule.{Rule}
use Rattle.rules.specs.Parts.{no_rule}
use Rattle.rules.proofs.Computed.{placed, each_place}
use Rattle.rules.proofs.Literals.{⊆_trans}
use Rattle.steps.proofs.Firing.{Fires, Fired, fired_yes, fired_no, unfired}
use Rattle.steps.proofs.closure.round.Goals as goal
use Rattle.steps.proofs.closure.round.Goals.{then-body_true+in-Yes, then-body_true+in-No, else-body_true}

pub loop-r-preserved : goal.loop-r-preserved
loop-r-preserved c =
    let m = placed _ _ _ c.loop-r-test.true in
    let l = c.requires _ m in
    let w : Fired (get_or c.args.rules.now c.loop-r.r-index no_rule) c.args.y c.loop-r.z c.if-body_true.z = elim c.if-body_true.branch [
      | then-body_true+in-Yes w ↦ fired_yes (c.body_true.ensures.0 w.if-body_true.true) l w.in-Yes.is w.z-is
      | then-body_true+in-No w ↦ fired_no (c.body_true.ensures.0 w.if-body_true.true) l w.in-No.is w.z-is
      | else-body_true w ↦ unfired (not_from_Decides _ c.body_true.ensures w.if-body_true.false) w.z-is
    ] in (
      ⊆_trans c.loop-r.invariant.0 w.keeps,
      below_more _ _ (λ k l b. w.keeps.each _ _ (c.loop-r.invariant.1 k l b)) w.fires,
      (λ W f h. w.least W (c.loop-r.invariant.2 W f h) (h _ m)),
    )

pub overflow_shl-z : goal.overflow_shl-z
overflow_shl-z c = c.requires _ (placed _ _ _ c.loop-r-test.true)

pub overflow_shl-z-in-No : goal.overflow_shl-z-in-No
overflow_shl-z-in-No c = c.requires _ (placed _ _ _ c.loop-r-test.true)

pub returns : goal.returns
returns c = record {
  keeps = c.loop-r.invariant.0;
  heads = each_place c.args.rules.now (λ (r : Rule). Fires r c.args.y c.loop-r.z)
      (λ k l. c.loop-r.invariant.1 k (let e = c.loop-r-test.false in omega arith));
  least = c.loop-r.invariant.2;
}
