use Rattle.std.proofs.Common.{◌≡◌, refl, sym, ap, map-id, ◌∙◌, arith, rules}
use Rattle.std.specs.List.{fold}
use Rattle.std.proofs.lemmas.Bool.Decides.{Decides-eqb, same_from_decides}
use Rattle.std.proofs.lemmas.Iterator.Consumers.{YieldsList-end}
use Rattle.std.proofs.lemmas.List.Sums.{fold_push}
use Rattle.evaluator.proofs.Numbering.{put, in_range, road, put_part}
use Rattle.evaluator.proofs.finder.bounds.numbered.Goals as goal

pub overflow_cast-place : goal.overflow_cast-place
overflow_cast-place c =
    let h = in_range c.args.set (road c.args.set c.into_iter-place-iterator.ensures.into_iter_gives c.enumerate-place-items.ensures.source c.enumerate-place-items.ensures.count c.filter-members.ensures.source c.filter-members.ensures.closure (λ x b q k. search rules)) c.loop-place.yielded _ c.loop-place.yielded_by _ _ (c.in-Some.place, c.in-Some.a) c.in-Some.is c.next.ensures.steps in
    omega (arith, h.0)

pub with_matter-chosen-requires : goal.with_matter-chosen-requires
with_matter-chosen-requires c =
    (in_range c.args.set (road c.args.set c.into_iter-place-iterator.ensures.into_iter_gives c.enumerate-place-items.ensures.source c.enumerate-place-items.ensures.count c.filter-members.ensures.source c.filter-members.ensures.closure (λ x b q k. search rules)) c.loop-place.yielded _ c.loop-place.yielded_by _ _ (c.in-Some.place, c.in-Some.a) c.in-Some.is c.next.ensures.steps).1

pub loop-place-preserved : goal.loop-place-preserved
loop-place-preserved c =
    let bit = same_from_decides _ _ c.has.ensures (Decides-eqb _ _) in
    let number : c.into.result ≡ c.args.number = cc in
    rw (c.with_matter-chosen.ensures, bit, number, c.loop-place.invariant, fold_push (put c.args.number) 0 c.loop-place.yielded (c.in-Some.place, c.in-Some.a)) refl

pub returns : goal.returns
returns c =
    let e = YieldsList-end (road c.args.set c.into_iter-place-iterator.ensures.into_iter_gives c.enumerate-place-items.ensures.source c.enumerate-place-items.ensures.count c.filter-members.ensures.source c.filter-members.ensures.closure (λ x b q k. search rules)) c.loop-place.yielded _ c.loop-place.yielded_by _ _ c.in-None.is c.next.ensures.steps in
    c.loop-place.invariant ∙ ap (fold (put c.args.number) 0) (sym (map-id c.loop-place.yielded) ∙ e.0) ∙ put_part c.args.set c.args.number
