use Rattle.std.proofs.Common.{Ok, Err}
use Rattle.std.proofs.lemmas.Result.{err_from_is_err_and}
use Rattle.kiosk.proofs.Idle.{lay_passes}
use Rattle.kiosk.proofs.kiosk.Kiosk.lay.Goals as goal

pub returns : goal.returns
returns g c =
    let st = g.R.OpenRack.state in
    let s = c.args.self.now in
    let i = c.idle.new.self in
    lay_passes (st s.rack) (st c.lay.new.self) (g.met.R.OpenRack.same_meaning s.rack) (g.met.R.Rack.kept s.rack) _ s.slip.facts.items i.session i.slip.facts.items
    c.in_ok-idle.ensures.free c.in_ok-idle.ensures.closed c.args.record (Ok tt) (rw c.idle.ensures.rack at c.in_ok-lay.ensures)

pub returns-in_err-lay : goal.returns-in_err-lay
returns-in_err-lay g c =
    let st = g.R.OpenRack.state in
    let s = c.args.self.now in
    let i = c.idle.new.self in
    let p = err_from_is_err_and c.from_residual-in_err-lay.result c.from_residual-in_err-lay.ensures.1 in
    rw (p.1, p.2)
    (lay_passes (st s.rack) (st c.lay.new.self) (g.met.R.OpenRack.same_meaning s.rack) (g.met.R.Rack.kept s.rack) _ s.slip.facts.items i.session i.slip.facts.items
    c.in_ok-idle.ensures.free c.in_ok-idle.ensures.closed c.args.record (Err c.in_err-lay.field-0.0) (rw c.idle.ensures.rack at c.in_err-lay.ensures))
