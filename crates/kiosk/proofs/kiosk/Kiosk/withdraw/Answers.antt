use Rattle.std.proofs.Common.{Ok, Err}
use Rattle.std.proofs.lemmas.Result.{err_from_is_err_and}
use Rattle.kiosk.proofs.Idle.{withdraw_passes}
use Rattle.kiosk.proofs.kiosk.Kiosk.withdraw.Goals as goal

pub returns : goal.returns
returns g c =
    let st = g.R.OpenRack.state in
    let s = c.args.self.now in
    let i = c.idle.new.self in
    withdraw_passes (st s.rack) (st c.withdraw.new.self) (g.met.R.OpenRack.same_meaning s.rack) (g.met.R.Rack.kept s.rack) _ s.slip.facts.items i.session i.slip.facts.items
    c.in_ok-idle.ensures.free c.in_ok-idle.ensures.closed (Ok tt) (rw c.idle.ensures.rack at c.in_ok-withdraw.ensures)

pub returns-in_err-withdraw : goal.returns-in_err-withdraw
returns-in_err-withdraw g c =
    let st = g.R.OpenRack.state in
    let s = c.args.self.now in
    let i = c.idle.new.self in
    let p = err_from_is_err_and c.from_residual-in_err-withdraw.result c.from_residual-in_err-withdraw.ensures.1 in
    rw (p.1, p.2)
    (withdraw_passes (st s.rack) (st c.withdraw.new.self) (g.met.R.OpenRack.same_meaning s.rack) (g.met.R.Rack.kept s.rack) _ s.slip.facts.items i.session i.slip.facts.items
    c.in_ok-idle.ensures.free c.in_ok-idle.ensures.closed (Err c.in_err-withdraw.field-0.0) (rw c.idle.ensures.rack at c.in_err-withdraw.ensures))
