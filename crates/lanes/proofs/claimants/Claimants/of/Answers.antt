use Rattle.std.proofs.Common.{ℕ, ◌+◌, sym, subst, rules}
use denote.Enum.Bare.{same_true, same_false}
use Rattle.rules.specs.contracts.rule.Sign.{the_type}
use Rattle.rules.specs.Semantics.{LiteralSet}
use Rattle.rules.proofs.Computed.{placed}
use Rattle.lanes.specs.declared.claimants.Claimants.{Claimants}
use Rattle.lanes.specs.Blocks.{Has}
use Rattle.lanes.specs.Claiming.{Gathered}
use Rattle.lanes.proofs.Gathering.{gathered_skip, gathered_more}
use Rattle.lanes.proofs.claimants.Claimants.of.Goals as goal
use Rattle.lanes.proofs.claimants.Claimants.of.Goals.{then-eq, else-eq}

pub add-requires : goal.add-requires
add-requires c = c.requires _ (placed _ _ _ c.loop-r-test.true)

pub loop-r-preserved : goal.loop-r-preserved
loop-r-preserved c =
    let Kept : Claimants → Type 0 = λ d. (X : ℕ → LiteralSet) → Has X c.args.block.now → Gathered c.args.rules.now (c.loop-r.r-index + 1) X c.args.sign d in
    elim c.if-eq.branch [
      | then-eq w ↦ subst Kept (sym w.claimants-is)
          (λ X h. gathered_more _ _ X _ _ _ _ (same_true the_type (search rules) _ _ (sym w.if-eq.ensures)) (w.body_true.ensures X h) w.add.ensures (c.loop-r.invariant X h))
      | else-eq w ↦ subst Kept (sym w.claimants-is)
          (λ X h. gathered_skip _ _ X _ _ (same_false the_type _ _ (sym w.if-eq.ensures)) (c.loop-r.invariant X h))
    ]
