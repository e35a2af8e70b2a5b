use Rattle.std.proofs.Common.{◌≡◌, ℕ, ◌+◌, ◌-◌, List, [], ◌∷◌, ◌++◌, length, get_or, drop, vec_items, vec_len, vec_capacity, sym, ap, ◌∙◌, subst, arith}
use Rattle.std.proofs.lemmas.List.Sums.{sum_by-drop_more}
use Rattle.kiosk.specs.declared.call.Call.TheVariants.{Begin}
use Rattle.kiosk.specs.Book.{Book}
use Rattle.kiosk.specs.Standing.{book_of}
use Rattle.runs.specs.declared.run.Answer.{Answer}
use Rattle.runs.specs.Purse.{Pursed, Stocked}
use Rattle.runs.specs.Running.{Answers, Runs, after, asks, tally, asked}
use Rattle.runs.proofs.Sessions.{going_start, going_more, going_end}
use Rattle.runs.proofs.replay.perform_all.Goals as goal

pub loop-call-init : goal.loop-call-init
loop-call-init g c =
    let r = c.in_ok-run.ensures in
    let run = c.in_ok-run.run' in
    record {
      counted = omega (arith, ap length r.unanswered, run.answers.ok.0);
      room = r.room;
      purse = r.purse;
      going = going_start (g.O.Order.over c.args.order.now) c.args.places (book_of g.R.OpenRack.state run.kiosk) c.args.calls.now (vec_items run.answers) r.unanswered;
      blank = r.blank;
      stock = r.stock;
    }

pub perform-answer-requires : goal.perform-answer-requires
perform-answer-requires g c =
    let i = c.loop-call.invariant in
    let calls = c.args.calls.now in
    let j = c.loop-call.call-index in
    let more : asked (drop j calls) ≡ tally (asks (get_or calls j Begin)) + asked (drop (j + 1) calls) = sum_by-drop_more (λ x. tally (asks x)) calls j Begin c.loop-call-test.true in
    record {
      purse = i.purse;
      stock = omega (arith, i.stock.0, more);
    }

pub loop-call-preserved : goal.loop-call-preserved
loop-call-preserved g c =
    let st = g.R.OpenRack.state in
    let run = c.loop-call.run in
    let i = c.loop-call.invariant in
    let calls = c.args.calls.now in
    let j = c.loop-call.call-index in
    let p = c.perform-answer.ensures in
    let more : asked (drop j calls) ≡ tally (asks (get_or calls j Begin)) + asked (drop (j + 1) calls) = sum_by-drop_more (λ x. tally (asks x)) calls j Begin c.loop-call-test.true in
    let in_stock : Stocked c.args.places (tally (asks (get_or calls j Begin))) run.lists = (omega (arith, i.stock.0, more), i.stock.1) in
    let stock = p.stock c.args.places in_stock in
    record {
      counted = omega (arith, c.push_reserved.ensures.len, i.counted);
      room = omega (arith, c.push_reserved.ensures.capacity, i.room);
      purse = p.purse;
      going = going_more (g.O.Order.over c.args.order.now) c.args.places (book_of st c.in_ok-run.run'.kiosk) (book_of st run.kiosk) _ calls j Begin c.perform-answer.result.1 (vec_items run.answers) _ i.going c.loop-call-test.true (p.answer c.args.places in_stock) p.book c.push_reserved.ensures.items;
      blank = i.blank;
      stock = (omega (arith, stock.0, i.stock.0, more), stock.1);
    }

pub returns : goal.returns
returns g c =
    let st = g.R.OpenRack.state in
    let run = c.loop-call.run in
    let calls = c.args.calls.now in
    let ready = c.in_ok-run.ensures in
    let e = going_end (g.O.Order.over c.args.order.now) c.args.places (book_of st c.in_ok-run.run'.kiosk) (book_of st run.kiosk) calls c.loop-call.call-index (vec_items run.answers) c.loop-call.invariant.going c.loop-call-test.false in
    let stands = e.0 ∙ ap (λ (b : Book). after b calls) ready.stands in
    record {
      answered = subst (λ (b : Book). Runs (g.O.Order.over c.args.order.now) c.args.places b calls (vec_items run.answers) (after b calls)) ready.stands e.1;
      stands = stands;
      purse = subst (λ (b : Book). Pursed b run.purse) stands c.loop-call.invariant.purse;
    }
