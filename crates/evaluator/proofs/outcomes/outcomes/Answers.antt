use Rattle.std.proofs.Common.{◌≡◌, take, refl, subst, arith}
use Rattle.std.proofs.lemmas.List.{take_all}
use Rattle.rules.proofs.Listing.{ListsBelow, found_start, found_more, lists_over}
use Rattle.evaluator.proofs.Findings.{found_far, found_end}
use Rattle.evaluator.proofs.outcomes.outcomes.Goals as goal

pub loop-m-init : goal.loop-m-init
loop-m-init g c = record { below = 0; from = rw c.into_iter-m-iterator.ensures.into_iter_gives c.new-m-items.ensures; found = found_start _ }

pub loop-m-preserved : goal.loop-m-preserved
loop-m-preserved g c =
    let w = c.in-Some.ensures.steps _ _ _ c.loop-m.invariant.below c.loop-m.invariant.from in
    let found = found_far w.not_below w.least c.loop-m.invariant.found in
    record { below = _; from = w.further; found = found_more found w.outcome (let q = c.if-count-list.false in let r = found.room in omega arith) }

pub returns-then-count-list : goal.returns-then-count-list
returns-then-count-list g c =
    let w = c.in-Some.ensures.steps _ _ _ c.loop-m.invariant.below c.loop-m.invariant.from in
    let found = found_far w.not_below w.least c.loop-m.invariant.found in
    let e : take c.loop-m.count c.loop-m.list ≡ c.loop-m.list = take_all _ _ (let q = c.if-count-list.true in omega arith) in
    let o = lists_over c.in-Some.m c.loop-m.list (subst (ListsBelow _ _ _ _) e found.found) w.outcome in
    (refl, record { outcomes = o.0; listed = o.1; too_many = o.2; lowest = o.3 })

pub returns : goal.returns
returns g c =
    let f = c.loop-m.invariant.found in
    record { enough = f.room; front = found_end (c.in-None.ensures.steps _ _ _ c.loop-m.invariant.below c.loop-m.invariant.from) f.found; rest = f.rest }
