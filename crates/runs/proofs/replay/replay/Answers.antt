use Rattle.std.proofs.Common.{ap, ◌∙◌, arith}
use Rattle.kiosk.specs.Standing.{kiosk_meaning, shown}
use Rattle.kiosk.specs.Shown.{kiosk_kept, kiosk_shown}
use Rattle.runs.specs.Running.{first, after}
use Rattle.runs.proofs.Listings.{listing_of}
use Rattle.runs.proofs.replay.replay.Goals as goal

pub returns : goal.returns
returns g c =
    let made = c.in_ok-run.ensures in
    let k = c.in_ok-run.run'.kiosk in
    let m = g.R.Rack.meaning in
    let st = g.R.OpenRack.state in
    let kept = g.met.R.Rack.kept k.rack in
    let over = g.O.Order.over c.args.order.now in (
      made,
      listing_of (kiosk_meaning m k) (after (first st c.args.start.rack) c.args.calls.now) over c.args.list.now c.outcomes-counted.new.list c.outcomes-counted.result
          (kiosk_kept m k kept) (g.met.O.Order.total c.args.order.now) (kiosk_shown m st k (g.met.R.OpenRack.same_meaning k.rack) kept ∙ ap shown made.stands) (omega (arith, c.outcomes-counted.auto.list)) c.outcomes-counted.ensures,
    )
