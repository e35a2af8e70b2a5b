use Rattle.std.proofs.Common.{◌+◌, arith}
use lib.Bits.{bit_and}
use Rattle.steps.proofs.SetOfs.{set_unique}
use Rattle.lanes.proofs.Trying.{sweep_start, sweep_more, sweep_none, sweep_end}
use Rattle.lanes.proofs.trial.Trial.sweep.Goals as goal

pub loop-matter-init : goal.loop-matter-init
loop-matter-init c = (λ P over X f b. sweep_start P over _ X c.args.from c.args.lanes, λ h z. absurd (omega arith))

pub loop-matter-preserved : goal.loop-matter-preserved
loop-matter-preserved c = (
  λ P over X f b. sweep_more P over _ X c.args.from c.args.lanes c.loop-matter.matter c.loop-matter.lanes c.standing-lanes.result
      (c.loop-matter.invariant.0 P over X f b) (c.standing-lanes.ensures P over X f (let k = c.loop-matter-test.true in omega arith)) (omega arith) (omega arith),
  λ _ z. c.if-lanes-eq0.false z,
)

pub returns-then-lanes-eq0 : goal.returns-then-lanes-eq0
returns-then-lanes-eq0 c = λ P over X f b.
    let swept = c.loop-matter.invariant.0 P over X f b in
    let k = c.loop-matter-test.true in
    record {
      reached = omega arith;
      below = k;
      none = sweep_none P over _ X c.args.from c.args.lanes (c.loop-matter.matter + 1) (c.loop-matter.matter + 1) (bit_and c.loop-matter.lanes c.standing-lanes.result) c.if-lanes-eq0.true (omega arith)
          (sweep_more P over _ X c.args.from c.args.lanes c.loop-matter.matter c.loop-matter.lanes c.standing-lanes.result swept (c.standing-lanes.ensures P over X f (omega arith)) (omega arith) (omega arith));
      first = λ h z. c.loop-matter.invariant.1 h (set_unique swept z);
    }

pub returns : goal.returns
returns c = λ P over X f b. (
  sweep_end P over _ X c.args.from c.args.lanes c.loop-matter.matter c.args.to c.loop-matter.lanes (omega arith) (c.loop-matter.invariant.0 P over X f b),
  λ h. c.loop-matter.invariant.1 (omega arith),
)
