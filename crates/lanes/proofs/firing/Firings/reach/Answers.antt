use Rattle.std.proofs.Common.{sym, ◌∙◌, true≢false, arith}
use Rattle.std.proofs.lemmas.Bool.Decides.{Decides-eqb}
use Rattle.std.proofs.lemmas.Slice.Eq.{slice_eq-Decides}
use Rattle.lanes.proofs.Reaching.{round_grows}
use Rattle.lanes.proofs.firing.Firings.reach.Goals as goal

pub grow-smaller : goal.grow-smaller
grow-smaller c =
    let g = round_grows _ c.grow.reach.words c.round-more.result.words c.args.self.now.low c.grow.invariant c.round-more.ensures c.grow.reach.whole c.round-more.result.whole (λ e. true≢false (sym ((slice_eq-Decides Decides-eqb _ _ _ c.eq.ensures).1 e) ∙ c.if-eq.false)) in
    let p = g.0 in let q = g.1 in omega arith
