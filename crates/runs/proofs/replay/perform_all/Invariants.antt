use Rattle.std.proofs.Common.{◌≡◌, ◌≤◌, length, drop, vec_items, vec_len, vec_capacity}
use Rattle.kiosk.specs.Standing.{book_of}
use Rattle.runs.specs.Purse.{Pursed, Stocked}
use Rattle.runs.specs.Running.{asked}
use Rattle.runs.proofs.Sessions.{Going}
use Rattle.runs.proofs.replay.perform_all.Given as goal

abbrev pub invariant-loop-call : goal.invariant-loop-call
invariant-loop-call g l =
    let st = g.R.OpenRack.state in
    record {
      counted : vec_len l.run.answers ≡ l.call-index;
      room : length l.calls ≤ vec_capacity l.run.answers;
      purse : Pursed (book_of st l.run.kiosk) l.run.purse;
      going : Going (g.O.Order.over l.order) l.places (book_of st l.initial.run.kiosk) (book_of st l.run.kiosk) l.calls l.call-index (vec_items l.run.answers);
      blank : l.run.places ≡ l.places;
      stock : Stocked l.places (asked (drop l.call-index l.calls)) l.run.lists;
    }
