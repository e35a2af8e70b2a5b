use Rattle.std.proofs.Common.{ℕ, ◌+◌, ◌<◌, ◌≤◌, List, length, get_or, sym, subst, arith}
use lib.Bits.{bit_and}
use Rattle.rules.specs.declared.rule.Rule.{Rule}
use Rattle.rules.specs.Parts.{no_rule}
use Rattle.rules.specs.Semantics.{Mem, LiteralSet, Overruling}
use Rattle.rules.proofs.Bitwise.{mem_below}
use Rattle.rules.proofs.Computed.{placed}
use Rattle.steps.specs.Parts.{SetOf}
use Rattle.steps.proofs.SetOfs.{set_same}
use Rattle.lanes.specs.declared.firing.Firings.{Firings}
use Rattle.lanes.specs.Contesting.{Hears}
use Rattle.lanes.specs.Founding.{Live, Holding}
use Rattle.lanes.proofs.Contesting.{default_lanes}
use Rattle.lanes.proofs.Founding.{Partly, pushed, enter_default, enter_rule, skip_rule, enter_end}
use Rattle.lanes.proofs.LaneSets.{set_own, set_and}
use Rattle.lanes.proofs.firing.Firings.enter.Goals as goal
use Rattle.lanes.proofs.firing.Firings.enter.Goals.{then-live-ne0, else-live-ne0}

pub live-requires : goal.live-requires
live-requires c = placed _ _ _ c.loop-r-test.true

pub loop-r-preserved : goal.loop-r-preserved
loop-r-preserved c =
    let i = c.loop-r.r-index in
    let rs = c.args.contest.now.rules.now in
    let m = c.args.matter in
    let live : (Q : List Rule) (over : Overruling) (n : ℕ) (X : ℕ → LiteralSet) → Hears Q over X m c.args.contest.now → SetOf (bit_and c.args.lanes c.live.result) (λ l. Mem l c.args.lanes × Live Q over (X l) (get_or rs i no_rule)) =
    λ Q over n X hears. set_same (λ l w. (w.0, w.1.1)) (λ l w. (w.0, (mem_below 64 c.args.lanes l (omega arith) w.0, w.1))) (set_and (set_own c.args.lanes) (c.live.ensures Q over X m hears)) in
    let Kept : Firings → Type 0 = λ f.
    (length f.items.items ≤ length c.push.new.self.items.items + (i + 1))
    × ((Q : List Rule) (over : Overruling) (n : ℕ) (X : ℕ → LiteralSet) → Hears Q over X m c.args.contest.now → m < n
    → Holding Q over n X c.args.lanes (λ b. b < m + 1) (Partly rs m 0) c.push.new.self.items.items
    → Holding Q over n X c.args.lanes (λ b. b < m + 1) (Partly rs m (i + 1)) f.items.items) in
    let l = c.loop-r.invariant.0 in
    elim c.if-live-ne0.branch [
      | then-live-ne0 w ↦ subst Kept (sym w.self-is) (
        (let e = pushed _ _ _ w.push-then-live-ne0.ensures in omega arith),
        λ Q over n X hears b h. enter_rule Q over n X c.args.lanes rs m c.requires.matter hears.about i c.loop-r.self.items.items _ _ c.loop-r-test.true
            w.push-then-live-ne0.ensures (live Q over n X hears) (c.loop-r.invariant.1 Q over n X hears b h),
      )
      | else-live-ne0 w ↦ subst Kept (sym w.self-is) (
        omega arith,
        λ Q over n X hears b h. skip_rule Q over n X c.args.lanes rs m c.requires.matter hears.about i c.loop-r.self.items.items _ w.if-live-ne0.false (live Q over n X hears) (c.loop-r.invariant.1 Q over n X hears b h),
      )
    ]

pub returns-clause-holds : goal.returns-clause-holds
returns-clause-holds c = λ Q over n X hears b h.
    let rs = c.args.contest.now.rules.now in
    let m = c.args.matter in
    enter_end Q over n X c.args.lanes rs m c.requires.matter hears.about c.loop-r.r-index _ c.loop-r-test.false
    (c.loop-r.invariant.1 Q over n X hears b
    (enter_default Q over n X c.args.lanes rs m c.requires.matter hears.about c.args.self.now.items.items _ _ c.push.ensures
    (default_lanes Q over X m c.args.contest.now hears n c.args.lanes _ b (omega arith) c.unclaimed.ensures) h))
