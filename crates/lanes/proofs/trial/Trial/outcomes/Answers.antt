use Rattle.std.proofs.Common.{ℕ, ◌≤◌, List, rules, refl, subst, arith}
use Rattle.rules.specs.declared.rule.Rule.{Rule}
use Rattle.rules.specs.Semantics.{Overruling, settled}
use Rattle.lanes.specs.declared.block.Block.{Block}
use Rattle.lanes.specs.declared.trial.Trial.{Trial}
use Rattle.lanes.specs.Trying.{Facing, Tries}
use Rattle.lanes.proofs.Trying.{AllStand, both_swept, struck_formed}
use Rattle.lanes.proofs.Verdicts.{none_left, in_swept, swept_outcomes}
use Rattle.lanes.proofs.trial.Trial.outcomes.Goals as goal
use Rattle.lanes.proofs.trial.Trial.outcomes.Goals.{After-and_then-swept, then-first-self, else-first-self}

facing : {P : List Rule} {over : Overruling} {M : ℕ → ℕ} {t : Trial} {b : Block} → Tries P over M t b → Facing P over (λ l. settled t.matters (M l)) t b
facing t = record { sound = t.sound; tabled = t.tabled; has = t.has }

all_stand : (c : After-and_then-swept) (P : List Rule) (over : Overruling) (M : ℕ → ℕ) → Tries P over M c.args.self.now c.args.block.now → AllStand P over c.args.self.now.matters (λ l. settled c.args.self.now.matters (M l)) c.args.lanes c.and_then-swept.result
all_stand c P over M t =
    let X = λ (l : ℕ). settled c.args.self.now.matters (M l) in
    let inside : c.if-first-self.first ≤ c.args.self.now.matters = elim c.if-first-self.branch [ then-first-self w ↦ let l = w.if-first-self.true in omega (arith, w.first-is) | else-first-self w ↦ omega (arith, w.first-is) ] in
    both_swept P over _ X c.args.lanes c.if-first-self.first _ c.sweep.result c.and_then-swept.result inside (c.sweep.ensures P over X (facing t) (omega arith))
    c.and_then-swept.ensures (λ a k. let f : Facing P over X c.args.self.now c.args.block.now = facing t in search rules)

pub returns-in-Ok : goal.returns-in-Ok
returns-in-Ok c = λ P over M total t.
    swept_outcomes P over _ M total (struck_formed P _ t.sound) t.small c.args.lanes _ (subst (AllStand P over _ (λ l. settled c.args.self.now.matters (M l)) c.args.lanes) c.in-Ok.is (all_stand c.before.before P over M t)) _ (c.founded.ensures P over _ (facing t))

pub returns-in-Err : goal.returns-in-Err
returns-in-Err c = λ P over M total t.
    none_left P over _ M total (struck_formed P _ t.sound) t.small c.args.lanes 0 refl
    (in_swept P over _ M total (struck_formed P _ t.sound) t.small c.args.lanes 0 (subst (AllStand P over _ (λ l. settled c.args.self.now.matters (M l)) c.args.lanes) c.in-Err.is (all_stand c.before P over M t)))
