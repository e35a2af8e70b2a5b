use Rattle.std.proofs.Common.{arith}
use Rattle.racks.specs.Changing.{sheets_meaning}
use Rattle.laying.proofs.Answered.{withdraw_fewer}
use Rattle.laying.proofs.pocket.calls.PocketRackOpenRack.withdraw.Goals as goal

pub invariant_of-self : goal.invariant_of-self
invariant_of-self c =
    let s = c.args.self.now in
    let k = withdraw_fewer (sheets_meaning s.sheets) (sheets_meaning c.withdraw.new.self) c.withdraw.result c.withdraw.ensures in
    let h = s.housed in
    record { housed = omega arith }
