use Rattle.std.proofs.Common.{◌≡◌, ℕ, subst, arith}
use Rattle.lanes.proofs.Trying.{group_room, most_matters}
use Rattle.lanes.specs.Founding.{HoldingTo}
use Rattle.rules.specs.Semantics.{struck}
use Rattle.lanes.proofs.trial.Trial.firings.Goals as goal

pub enter-requires-clause-room : goal.enter-requires-clause-room
enter-requires-clause-room c =
    let m = most_matters c.requires.0 c.args.self.now c.requires.1 in let l = c.loop-matter-test.true in
    let g = group_room c.requires.0 c.args.self.now c.requires.1 c.loop-matter.matter _ (omega arith) c.contest.ensures.rules in
    let e = g.0 in let r = g.1 in let i = c.loop-matter.invariant.0 in
    omega arith

pub loop-matter-preserved : goal.loop-matter-preserved
loop-matter-preserved c =
    let m = most_matters c.requires.0 c.args.self.now c.requires.1 in let l = c.loop-matter-test.true in
    let g = group_room c.requires.0 c.args.self.now c.requires.1 c.loop-matter.matter _ (omega arith) c.contest.ensures.rules in
    let e = g.0 in let i = c.loop-matter.invariant.0 in let r = c.enter.ensures.few in
    (omega arith, λ P over X f. c.enter.ensures.holds (struck P) over _ X (c.contest.ensures.hears P over X f) l (c.loop-matter.invariant.1 P over X f))

pub returns : goal.returns
returns c = λ P over X f. let e : c.loop-matter.matter ≡ c.args.self.now.matters = omega arith in
    subst (λ (a : ℕ). HoldingTo (struck P) over c.args.self.now.matters X c.args.lanes a c.loop-matter.firings.items.items) e (c.loop-matter.invariant.1 P over X f)
