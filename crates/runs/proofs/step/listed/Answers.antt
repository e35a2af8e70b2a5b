use Rattle.std.proofs.Common.{sym, arith}
use Rattle.kiosk.specs.Standing.{book_of, kiosk_meaning}
use Rattle.kiosk.specs.Shown.{kiosk_kept, kiosk_shown}
use Rattle.runs.proofs.Listings.{listing_of, listing_moved, front_again}
use Rattle.runs.proofs.step.listed.Goals as goal

pub returns : goal.returns
returns g c =
    let k = c.args.kiosk.now in
    let m = g.R.Rack.meaning in
    let kept = g.met.R.Rack.kept k.rack in
    let over = g.O.Order.over c.args.order.now in
    let h = listing_of (kiosk_meaning m k) (book_of g.R.OpenRack.state k) over c.as_mut_slice.result.now c.outcomes-counted.new.list c.outcomes-counted.result
    (kiosk_kept m k kept) (g.met.O.Order.total c.args.order.now) (kiosk_shown m g.R.OpenRack.state k (g.met.R.OpenRack.same_meaning k.rack) kept) (omega (arith, c.outcomes-counted.auto.list)) c.outcomes-counted.ensures in
    listing_moved c.as_mut_slice.ensures.value
    (sym (front_again c.outcomes-counted.new.list _ c.args.list.len (omega (arith, c.outcomes-counted.auto.list, c.as_mut_slice.ensures.len)))) h
