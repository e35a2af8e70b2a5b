use Rattle.std.proofs.Common.{◌≡◌, subst, arith}
use Rattle.std.proofs.lemmas.Result.{err_from_is_err_and}
use Rattle.rules.specs.Records.{Checks}
use Rattle.kiosk.specs.declared.fault.KioskFault.TheVariants.{BadFact}
use Rattle.kiosk.specs.Slip.{matters_in}
use Rattle.kiosk.specs.Facts.{room_for}
use Rattle.kiosk.specs.Steps.{fact_record}
use Rattle.kiosk.proofs.Opened.{opened, opened_sound, opened_bad, opened_found, opened_full, opened_added}
use Rattle.kiosk.proofs.kiosk.Kiosk.fact.Goals as goal

pub returns-in_err-rule : goal.returns-in_err-rule
returns-in_err-rule g c =
    let s = c.args.self.now in
    let a = c.args.matter in
    let t = opened g.R.Rack.meaning g.R.OpenRack.state s (g.met.R.OpenRack.same_meaning s.rack) (g.met.R.Rack.kept s.rack) c.shape-below.ensures c.seated.ensures c.if-not-seated.false in
    let below = c.shape-below.result in
    let h = subst (Checks below.matters below.sheets (fact_record a c.args.sign)) c.in_err-rule.ensures.ok_part c.check.ensures in
    let p = err_from_is_err_and c.from_residual.result c.from_residual.ensures.1 in
    let e : c.in_err-rule.field-0.0 ≡ BadFact = let v = rw c.in_err-rule.ensures.ok_part at c.in_err-rule.ensures.value in cc in
    rw (p.1, p.2, e) (opened_bad t a c.args.sign h)

pub returns-in-Some : goal.returns-in-Some
returns-in-Some g c =
    let s = c.args.self.now in
    let a = c.args.matter in
    let t = opened g.R.Rack.meaning g.R.OpenRack.state s (g.met.R.OpenRack.same_meaning s.rack) (g.met.R.Rack.kept s.rack) c.shape-below.ensures c.seated.ensures c.if-not-seated.false in
    let below = c.shape-below.result in
    let h = subst (Checks below.matters below.sheets (fact_record a c.args.sign)) c.in_ok-rule.ensures.ok_part c.check.ensures in
    opened_found t a c.args.sign c.in_ok-rule.rule h c.in-Some.i c.in-Some.ensures c.change.new.self.facts.items c.change.ensures

pub returns-then-from-len-ge-MOST_RULES : goal.returns-then-from-len-ge-MOST_RULES
returns-then-from-len-ge-MOST_RULES g c =
    let s = c.args.self.now in
    let a = c.args.matter in
    let t = opened g.R.Rack.meaning g.R.OpenRack.state s (g.met.R.OpenRack.same_meaning s.rack) (g.met.R.Rack.kept s.rack) c.shape-below.ensures c.seated.ensures c.if-not-seated.false in
    let below = c.shape-below.result in
    let h = subst (Checks below.matters below.sheets (fact_record a c.args.sign)) c.in_ok-rule.ensures.ok_part c.check.ensures in
    opened_full t a c.args.sign h.0 c.in_default.ensures (omega arith)

pub add-requires : goal.add-requires
add-requires g c =
    let s = c.args.self.now in
    let a = c.args.matter in
    let t = opened g.R.Rack.meaning g.R.OpenRack.state s (g.met.R.OpenRack.same_meaning s.rack) (g.met.R.Rack.kept s.rack) c.shape-below.ensures c.seated.ensures c.if-not-seated.false in
    let below = c.shape-below.result in
    let h = subst (Checks below.matters below.sheets (fact_record a c.args.sign)) c.in_ok-rule.ensures.ok_part c.check.ensures in
    omega (arith, room_for (matters_in s.session) s.slip.facts.items (record { matter = a; sign = c.in_ok-rule.rule.sign }) s.known s.apart (opened_sound t a c.args.sign h.0) c.in_default.ensures, s.few)

pub returns : goal.returns
returns g c =
    let s = c.args.self.now in
    let a = c.args.matter in
    let t = opened g.R.Rack.meaning g.R.OpenRack.state s (g.met.R.OpenRack.same_meaning s.rack) (g.met.R.Rack.kept s.rack) c.shape-below.ensures c.seated.ensures c.if-not-seated.false in
    let below = c.shape-below.result in
    let h = subst (Checks below.matters below.sheets (fact_record a c.args.sign)) c.in_ok-rule.ensures.ok_part c.check.ensures in
    opened_added t a c.args.sign c.in_ok-rule.rule h c.in_default.ensures (omega arith) c.add.new.self.facts.items c.add.ensures
