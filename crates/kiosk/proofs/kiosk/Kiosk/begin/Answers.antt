use Rattle.std.proofs.Common.{Ok}
use Rattle.kiosk.proofs.Idle.{begin_passes}
use Rattle.kiosk.proofs.kiosk.Kiosk.begin.Goals as goal

pub returns : goal.returns
returns g c =
    let st = g.R.OpenRack.state in
    let s = c.args.self.now in
    let i = c.idle.new.self in
    begin_passes (st s.rack) (st c.begin.new.self) (g.met.R.OpenRack.same_meaning s.rack) (g.met.R.Rack.kept s.rack) _ s.slip.facts.items i.session i.slip.facts.items
    c.in_ok-idle.ensures.free c.in_ok-idle.ensures.closed (Ok tt) (rw c.idle.ensures.rack at c.in_ok-begin.ensures)
