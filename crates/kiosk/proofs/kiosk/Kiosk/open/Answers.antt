use Rattle.std.proofs.Common.{◌<◌, Some, length, sym, ap, subst, arith}
use Rattle.racks.specs.Meaning.{Kept, shaped}
use Rattle.rules.specs.declared.rule.Shape.{Shape}
use Rattle.kiosk.specs.Standing.{seated}
use Rattle.kiosk.specs.Steps.{seated_from, open_done}
use Rattle.kiosk.proofs.Idle.{shut}
use Rattle.kiosk.proofs.kiosk.Kiosk.open.Goals as goal

pub returns-clause-book : goal.returns-clause-book
returns-clause-book g c =
    let s = c.args.self.now in
    let from = g.R.OpenRack.state s.rack in
    let below = c.in_ok-below.ensures in
    let es = c.idle.new.self.slip.facts.items in
    let o = Some c.in_ok-below.below.matters in
    let kept = subst Kept (sym (g.met.R.OpenRack.same_meaning s.rack)) (g.met.R.Rack.kept s.rack) in
    let lt : from.meaning.sheets < 32 = omega (arith, ap (λ (x : Shape). x.sheets) below.shape, c.if-from-ge-MOST_SHEETS.false) in
    let sat = seated_from from.meaning o es (ap (λ (x : Shape). Some x.matters) below.shape) lt (omega (arith, kept.few_rules, ap length below.empty)) in
    rw c.idle.ensures.rack (open_done from _ s.slip.facts.items (shut _ s.slip.facts.items below.free) lt (seated (shaped from.meaning) o es) es sat below.empty)
