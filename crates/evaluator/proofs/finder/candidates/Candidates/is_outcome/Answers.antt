use Rattle.std.proofs.Common.{ℕ, ◌-◌, List, ap, subst}
use Rattle.rules.specs.declared.rule.Rule.{Rule}
use Rattle.rules.specs.Held.{held}
use Rattle.rules.specs.Semantics.{LiteralSet, Step}
use Rattle.rules.proofs.Computed.{decides_same}
use Rattle.rules.proofs.Theory.{decides_outcome}
use Rattle.evaluator.proofs.finder.candidates.Candidates.is_outcome.Goals as goal

pub returns : goal.returns
returns c = λ over t.
    let e = ap {B = LiteralSet} (λ (k : ℕ). (c.args.m, k - c.args.m)) (c.all_matters.ensures.few c.args.self.now.ready.few_matters) in
    let s : Step (held c.args.self.now.table) over c.args.self.now.matters (c.args.m, c.all_matters.result - c.args.m) c.step.result =
    subst (λ (P : List Rule). Step P over c.args.self.now.matters (c.args.m, c.all_matters.result - c.args.m) c.step.result) c.program.ensures.rules
    (subst (λ (n : ℕ). Step c.program.result.rules.now over n (c.args.m, c.all_matters.result - c.args.m) c.step.result) c.program.ensures.matters (c.step.ensures over t)) in
    decides_outcome c.eq.result e c.requires s (rw c.eq.ensures (decides_same _ _))
