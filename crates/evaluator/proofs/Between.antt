-- The sets that a finder tries: the outcomes are among them.
use Rattle.std.proofs.Common.{◌≡◌, ℕ, ◌-◌, ◌^◌, ◌<◌, ◌≤◌, cond, eqb, ◌⊎◌, List, sym, refl, ap, ◌∙◌, subst, inl, inr, ⊎_elim, arith}
use lib.Bits.{bit_and, bit_or, or_lt, or_disjoint}
use lib.Count.{ones}
use Rattle.std.proofs.lemmas.Bool.{cond_both, eqb-false}
use Rattle.rules.specs.declared.rule.Rule.{Rule}
use Rattle.rules.specs.declared.rule.Sign.TheVariants.{Yes}
use Rattle.rules.specs.Held.{held}
use Rattle.rules.specs.Semantics.{Mem, LiteralSet, Overruling, Total, Formed, Outcome, WellFounded}
use Rattle.rules.proofs.Bitwise.{mem_cases, mem_and, mem_and_left, mem_and_right, mem_or_left, mem_or_right, mem_or_cases, mem_below, rest_mem, rest_not, same_members, below_from_members, not_in_zero}
use Rattle.rules.proofs.Theory.{outcome_between, step_bounded}
use Rattle.rules.specs.declared.rule.Shape.{Shape}
use Rattle.racks.specs.Meaning.{Meaning, shaped}
use Rattle.evaluator.proofs.Readiness.{read_as}
use Rattle.evaluator.specs.declared.finder.Finder.{Finder}
use Rattle.evaluator.specs.Finding.{From}
use Rattle.steps.specs.Parts.{SetOf, Tabled}
use Rattle.steps.specs.Subsets.{part, Undecided}
use Rattle.steps.proofs.SetOfs.{empty_zero}
use Rattle.steps.proofs.Subsets.{part_within, part_rising, part_onto}

-- all matters but those of two sets
pub undecided_set : {n x : ℕ} {X : LiteralSet} → n ≤ 16 → x ≡ 2 ^ n - 1 → X.0 < 2 ^ 16 → X.1 < 2 ^ 16 → SetOf (bit_and x (65535 - bit_or X.0 X.1)) (Undecided n X)
undecided_set {n} {x} {X} few e p q =
    let either = bit_or X.0 X.1 in
    let l : either < 2 ^ 16 = or_lt 16 X.0 X.1 p q in
    let e' : 2 ^ n - 1 - 0 ≡ x = omega arith in
    record {
      all = λ a w. let h = w.0 in mem_and a x (65535 - either)
          (subst (Mem a) e' (rest_mem n 0 a (lib.Pow.pow_pos n) h (not_in_zero a)))
          (rest_mem 16 either a l (omega arith) (λ m. ⊎_elim w.1 w.2 (mem_or_cases a X.0 X.1 m)));
      only = λ a m.
          let h = mem_below n (2 ^ n - 1) a (let z = lib.Pow.pow_pos n in omega arith) (subst (Mem a) e (mem_and_left a x (65535 - either) m)) in
          let r = rest_not 16 either a l (omega arith) (mem_and_right a x (65535 - either) m) in
          (h, (λ k. r (mem_or_left a X.0 X.1 k)), (λ k. r (mem_or_right a X.0 X.1 k)));
    }

module _ {P : List Rule} {over : Overruling} {n : ℕ} {X : LiteralSet} {u : ℕ} (total : Total over) (formed : Formed n P) (few : n ≤ 16) (w : WellFounded P over n X) (undecided : SetOf u (Undecided n X)) where
  small : u < 2 ^ 16
  small = below_from_members 16 u (λ a m. let h = (undecided.only a m).0 in omega arith)

  apart : (t : ℕ) → bit_and X.0 (part 16 u t) ≡ 0
  apart t = empty_zero _ (λ a m. (undecided.only a (part_within 16 u t a (mem_and_right a X.0 (part 16 u t) m))).1 (mem_and_left a X.0 (part 16 u t) m))

  pub tried_below : (t : ℕ) → bit_or X.0 (part 16 u t) < 2 ^ n
  tried_below t = below_from_members n _ (λ a m. ⊎_elim
      (λ h. step_bounded Yes a formed w.stands.narrow h)
      (λ h. (undecided.only a (part_within 16 u t a h)).0)
      (mem_or_cases a X.0 (part 16 u t) m))

  pub tried_rising : (t v : ℕ) → t < v → v < 2 ^ ones u → bit_or X.0 (part 16 u t) < bit_or X.0 (part 16 u v)
  tried_rising t v l h =
      let a = or_disjoint X.0 (part 16 u t) (apart t) in
      let b = or_disjoint X.0 (part 16 u v) (apart v) in
      let r = part_rising 16 u t v small l h in
      omega arith

  pub tried_outcome : (M : ℕ) → Outcome P over n M → (t : ℕ) × (t < 2 ^ ones u) × (M ≡ bit_or X.0 (part 16 u t))
  tried_outcome M o =
      let b = outcome_between total formed o w in
      let f = part_onto 16 u (bit_and M u) small (λ a m. mem_and_right a M u m) in
      let e : bit_or X.0 (part 16 u f.0) ≡ bit_or X.0 (bit_and M u) = ap (bit_or X.0) f.2 in (
        f.0,
        f.1,
        same_members M (bit_or X.0 (bit_and M u))
            (λ a m. ⊎_elim
            (λ h. mem_or_left a X.0 (bit_and M u) h)
            (λ h. mem_or_right a X.0 (bit_and M u) (mem_and a M u m (undecided.all a (mem_below n M a o.0 m, h, (λ k. b.1 a k m)))))
            (mem_cases a X.0))
            (λ a m. ⊎_elim (λ h. b.0 a h) (λ h. mem_and_left a M u h) (mem_or_cases a X.0 (bit_and M u) m))
            ∙ sym e,
      )

  -- where the model holds both signs of a matter there is none
  pub both_signs : (bit_and X.0 X.1 ≡ 0 → ⊥) → (M : ℕ) → Outcome P over n M → ⊥
  both_signs f M o =
      let b = outcome_between total formed o w in
      f (empty_zero _ (λ a m. b.1 a (mem_and_right a X.0 X.1 m) (b.0 a (mem_and_left a X.0 X.1 m))))

-- a finder that begins has to give all outcomes
pub from_start : {over : Overruling} (f : Finder) (others : ℕ) → Total over → WellFounded (held f.candidates.table) over f.candidates.matters (f.candidates.yes, others)
    → Tabled over f.candidates.overrulers → SetOf f.candidates.undecided (Undecided f.candidates.matters (f.candidates.yes, others)) → f.untried.start ≡ 0
    → f.untried.end ≡ cond (eqb (bit_and f.candidates.yes others) 0) (2 ^ ones f.candidates.undecided) 0 → From (held f.candidates.table) over f.candidates.matters f 0
from_start {over} f others total model tabled undecided first last =
    let c = f.candidates in
    let formed = c.ready.formed in
    let few = c.ready.few_matters in
    let u = c.undecided in
    let ends : (f.untried.end ≡ 2 ^ ones u) ⊎ ((f.untried.end ≡ 0) × (bit_and c.yes others ≡ 0 → ⊥)) =
    subst (λ (x : ℕ). (x ≡ 2 ^ ones u) ⊎ ((x ≡ 0) × (bit_and c.yes others ≡ 0 → ⊥))) (sym last)
    (cond_both (eqb (bit_and c.yes others) 0) (2 ^ ones u) 0 (λ (x : ℕ). (x ≡ 2 ^ ones u) ⊎ ((x ≡ 0) × (bit_and c.yes others ≡ 0 → ⊥))) (λ _. inl refl) (λ e. inr (refl, eqb-false _ _ e))) in
    record {
      rules_are = refl;
      matters_are = refl;
      tabled = tabled;
      rising = λ t v l h. ⊎_elim (λ e. tried_rising total formed few model undecided t v l (omega arith)) (λ e. let z = e.0 in absurd (omega arith)) ends;
      low = λ t l h. omega arith;
      all = λ M o l. ⊎_elim
          (λ e. let w = tried_outcome total formed few model undecided M o in let h = w.1 in (w.0, omega arith, omega arith, w.2))
          (λ e. absurd (both_signs total formed few model undecided e.1 M o))
          ends;
    }

-- so has one that begins with what was read of a rack
pub from_read : {over : Overruling} {f : Finder} (m : Meaning) {s : Shape} → s ≡ shaped m → held f.candidates.table ≡ m.rules → f.candidates.matters ≡ s.matters → From (held f.candidates.table) over f.candidates.matters f 0 → From m.rules over m.matters f 0
from_read {over} {f} m e r n from = read_as (λ P k. From P over k f 0) m e refl r (subst (λ (k : ℕ). From (held f.candidates.table) over k f 0) n from)
