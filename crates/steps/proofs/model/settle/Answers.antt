use Rattle.std.proofs.Common.{◌+◌, ◌*◌, ◌≤◌, sym, subst, arith}
use Rattle.std.proofs.lemmas.Bool.Decides.{not_from_Decides}
use Rattle.rules.specs.Semantics.{LiteralSet, Overruling, Turn}
use Rattle.rules.proofs.Computed.{decides_same}
use Rattle.rules.proofs.Rounds.{Counted, counted_start, counted_few, counted_more, counted_end}
use Rattle.rules.proofs.Theory.{rests_well_founded}
use Rattle.steps.specs.Ruling.{Ruled}
use Rattle.steps.proofs.model.settle.Goals as goal

pub turns-init : goal.turns-init
turns-init c = λ over t. counted_start _ _ _

more : (c : goal.Else-eq) (over : Overruling) → Ruled over c.args.overrulers.now → Counted c.args.program.rules.now over c.args.program.matters (c.turns.rounds + 1) c.step-z.result
more c over t = counted_more (c.turns.invariant over t) (record { between = c.step-y.result; broad = c.step-y.ensures over t.broad; narrow = c.step-z.ensures _ t.narrow }) (not_from_Decides _ (decides_same _ _) (sym c.if-eq.ensures))

few : (c : goal.Else-eq) → c.turns.rounds + 1 ≤ 2 * c.args.program.matters
few c = counted_few c.args.program.ready.formed (more c c.requires.0 c.requires.1)

pub overflow_add-rounds : goal.overflow_add-rounds
overflow_add-rounds c = let l = few c in omega (arith, c.args.program.ready.few_matters)

pub turns-smaller : goal.turns-smaller
turns-smaller c = let l = few c in omega arith

pub turns-preserved : goal.turns-preserved
turns-preserved c = more c

pub returns : goal.returns
returns c = λ over t.
    let e = (decides_same _ _).0 (sym c.if-eq.ensures) in
    let turn : Turn c.args.program.rules.now over c.args.program.matters c.turns.x c.step-z.result = record { between = c.step-y.result; broad = c.step-y.ensures over t.broad; narrow = c.step-z.ensures _ t.narrow } in
    let r = counted_end (c.turns.invariant over t) (subst (λ (Z : LiteralSet). Turn c.args.program.rules.now over c.args.program.matters c.turns.x Z) e turn) in
    record { well_founded = rests_well_founded r; rests = r; few_rounds = counted_few c.args.program.ready.formed (c.turns.invariant over t) }
