use Rattle.std.proofs.Common.{◌+◌, ◌<◌, sym, arith}
use Rattle.std.proofs.lemmas.Bool.Decides.{not_from_Decides}
use Rattle.rules.proofs.Computed.{decides_same}
use Rattle.rules.proofs.Literals.{grown}
use Rattle.rules.proofs.Theory.{below_more}
use Rattle.steps.proofs.closure.closure.Goals as goal

pub grow-smaller : goal.grow-smaller
grow-smaller c =
    let l : c.grow.y.0 + c.grow.y.1 < c.round-z.result.0 + c.round-z.result.1 = grown c.round-z.ensures.keeps (not_from_Decides _ (decides_same _ _) (sym c.if-eq.ensures)) in
    omega arith

pub grow-preserved : goal.grow-preserved
grow-preserved c = below_more c.grow.invariant c.round-z.ensures
