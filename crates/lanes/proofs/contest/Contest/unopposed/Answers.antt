use Rattle.std.proofs.Common.{get_or, sym, subst, arith}
use Rattle.rules.specs.Semantics.{Mem}
use Rattle.steps.proofs.SetOfs.{set_same}
use Rattle.lanes.specs.declared.claimants.Claimants.{Claimants}
use Rattle.lanes.proofs.LaneSets.{set_own, set_and, set_not}
use Rattle.lanes.proofs.contest.Contest.unopposed.Goals as goal

pub returns : goal.returns
returns c = let e = c.side.ensures in set_same
    (λ l w. (w.1.0, record { claims = subst (λ (x : Claimants). Mem l (get_or x.lanes c.args.sheet 0)) e w.0; unopposed = w.1.1 }))
    (λ l w. (subst (λ (x : Claimants). Mem l (get_or x.lanes c.args.sheet 0)) (sym e) w.1.claims, (w.0, w.1.unopposed)))
    (set_and (set_own _) (set_not (omega arith) c.against.ensures))
