-- A call of the rack below, with no session before it and none after it: neither book has a slip.
use Rattle.std.specs.Prelude.{◌≡◌, ℕ, Bool, true, false, List, None, Option, Result, refl}
use Rattle.std.proofs.Common.{sym, subst}
use Rattle.std.proofs.lemmas.Bool.{true≢false}
use Rattle.rules.specs.declared.record.Record.{Record}
use Rattle.racks.specs.Meaning.{Meaning, Kept, shaped}
use Rattle.laying.specs.declared.fault.RackFault.{RackFault}
use Rattle.laying.specs.Laying.{Ground, Begins, Lays, Withdraws}
use Rattle.kiosk.specs.declared.call.Call.{Call}
use Rattle.kiosk.specs.declared.call.Call.TheVariants.{Begin, Lay, Withdraw}
use Rattle.kiosk.specs.declared.slip.Fact.{Fact}
use Rattle.kiosk.specs.Book.{step, Does, in_session}
use Rattle.kiosk.specs.Standing.{booked, slip_of, seated}
use Rattle.kiosk.specs.Steps.{lifted, unseated, begin_steps, lay_steps, withdraw_steps}

pub shut : (b : Bool) (fs : List Fact) → in_session (slip_of b fs) ≡ false → b ≡ false
shut true fs e = absurd (true≢false e)
shut false fs e = refl

module _ {m : Meaning} (g h : Ground) (below : g.meaning ≡ m) (met : Kept m) (b : Bool) (fs : List Fact) (o : Option ℕ) (es : List Fact) (free : in_session (slip_of b fs) ≡ false) (closed : o ≡ None) where
  kept : Kept g.meaning
  kept = subst Kept (sym below) met

  abbrev Passes : Call → Result (Unit {0}) RackFault → Type 0
  Passes C r = Does (step (booked g (slip_of b fs)) C) (lifted r) (booked h (slip_of (seated (shaped h.meaning) o es) es))

  passed_on : (C : Call) (r : Result (Unit {0}) RackFault) → Does (step (booked g None) C) (lifted r) (booked h None) → Passes C r
  passed_on C r d = rw closed (unseated C b fs g (lifted r) (booked h None) (shut b fs free) d)

  pub begin_passes : (r : Result (Unit {0}) RackFault) → Begins g r h → Passes Begin r
  begin_passes r d = passed_on Begin r (begin_steps g h kept r d)

  pub lay_passes : (x : Record) (r : Result (Unit {0}) RackFault) → Lays g x r h → Passes (Lay x) r
  lay_passes x r d = passed_on (Lay x) r (lay_steps g h kept x r d)

  pub withdraw_passes : (r : Result (Unit {0}) RackFault) → Withdraws g r h → Passes Withdraw r
  withdraw_passes r d = passed_on Withdraw r (withdraw_steps g h kept r d)
