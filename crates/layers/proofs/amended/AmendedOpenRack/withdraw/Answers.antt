use Rattle.std.proofs.Common.{subst}
use Rattle.laying.specs.Laying.{Ground, Withdraws}
use Rattle.laying.specs.Pocketing.{pocket_meaning}
use Rattle.layers.specs.Over.{stood}
use Rattle.layers.specs.Amending.{withdraw_over}
use Rattle.layers.proofs.amended.AmendedOpenRack.withdraw.Goals as goal

pub returns : goal.returns
returns g c =
    let s = c.settle.new.self in
    let m = g.R.Rack.meaning s.below in
    let p = pocket_meaning c.withdraw.new.self in
    let r = c.withdraw.result in
    subst (λ (h : Ground). Withdraws h r (stood m p)) c.settle.ensures.same (withdraw_over m (pocket_meaning s.own) p (g.met.R.Rack.kept s.below) c.settle.ensures.fit r c.withdraw.ensures)
