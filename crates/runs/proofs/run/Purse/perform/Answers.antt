use Rattle.std.proofs.Common.{vec_items, ap}
use Rattle.kiosk.specs.declared.call.Call.{Call}
use Rattle.kiosk.specs.declared.call.Call.TheVariants.{Lay}
use Rattle.kiosk.specs.Standing.{book_of}
use Rattle.runs.specs.Running.{asks, tally}
use Rattle.runs.proofs.Sessions.{purse_kept, lay_keeps, stock_taken}
use Rattle.runs.proofs.Listings.{listed_answers}
use Rattle.runs.proofs.run.Purse.perform.Goals as goal

pub returns-in-Lay-clause-purse : goal.returns-in-Lay-clause-purse
returns-in-Lay-clause-purse g c =
    let b = book_of g.R.OpenRack.state c.args.kiosk.now in
    purse_kept _ b (Lay c.in-Lay.rule) (lay_keeps b c.in-Lay.rule) c.lay.ensures.1 c.requires.purse

pub returns-in-Outcomes-clause-answer : goal.returns-in-Outcomes-clause-answer
returns-in-Outcomes-clause-answer g c = λ places stock.
    let call = c.args.call in
    let taken = stock_taken places (tally (asks call)) c.args.lists.now c.take_last.new.self c.take_last.result c.take_last.ensures.items c.take_last.ensures.len (ap (λ (x : Call). tally (asks x)) c.in-Outcomes.is) stock in
    listed_answers (g.O.Order.over c.args.order.now) places (book_of g.R.OpenRack.state c.args.kiosk.now) call (vec_items c.take_last.result) c.listed.result c.in-Outcomes.is taken.0 c.listed.ensures

pub returns-in-Outcomes-clause-stock : goal.returns-in-Outcomes-clause-stock
returns-in-Outcomes-clause-stock g c = λ places stock.
    (stock_taken places (tally (asks c.args.call)) c.args.lists.now c.take_last.new.self c.take_last.result c.take_last.ensures.items c.take_last.ensures.len (ap (λ (x : Call). tally (asks x)) c.in-Outcomes.is) stock).1
