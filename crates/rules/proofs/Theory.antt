-- The theory of steps, outcomes and the well-founded model.
use Rattle.std.proofs.Common.{◌≡◌, ℕ, ◌^◌, ◌<◌, Bool, true, false, not, List, Decides, sym, refl, ap, ◌∙◌, subst, subst₂, ⊎_elim, arith}
use Rattle.std.proofs.lemmas.Bool.{cases_lt, cases_Bool, and_from, and_parts, not_from_false}
use Rattle.rules.specs.declared.rule.Rule.{Rule}
use Rattle.rules.specs.declared.rule.Sign.{Sign}
use Rattle.rules.specs.declared.rule.Sign.TheVariants.{Yes, No}
use Rattle.rules.specs.Semantics.{Mem, LiteralSet, Holds, ◌⊆◌, ◌∈◌, body, opposite, Overruling, Total, strictly, Rejects, Rejected, Survives, Default, Closed, Closure, Step, Turn, WellFounded, After, Rests, Outcome, settled, Formed, Tautology}
use Rattle.rules.specs.Parts.{Round}
use Rattle.rules.specs.Semantics.After.{start, more}
use Rattle.rules.proofs.Bitwise.{not_in_zero}
use Rattle.rules.proofs.Literals.{opposite_opposite, ⊆_refl, ⊆_trans, ⊆_antisym, empty_⊆, holds_cases, settled_other, settled_one, minus, minus_less, minus_not, minus_other}

-- more true bodies reject more
pub rejected_more : {P : List Rule} {over : Overruling} {X Y : LiteralSet} {r : Rule} → X ⊆ Y → Rejected P over X r → Rejected P over Y r
rejected_more f j = record { rejecter = j.rejecter; of_the_list = j.of_the_list; rejects = let w = j.rejects in record { clash = w.clash; body_true = ⊆_trans w.body_true f; overrules = w.overrules } }

-- and leave fewer defaults
pub default_less : {P : List Rule} {n : ℕ} {X Y : LiteralSet} {a : ℕ} → X ⊆ Y → Default P n Y a → Default P n X a
default_less f d = record { a_matter = d.a_matter; unaffirmed = λ r m w. d.unaffirmed r m (record { sign_is = w.sign_is; head_is = w.head_is; body_true = ⊆_trans w.body_true f }) }

pub survives_less : {P : List Rule} {over : Overruling} {X Y : LiteralSet} {r : Rule} → X ⊆ Y → Survives P over Y r → Survives P over X r
survives_less f v = record { of_the_list = v.of_the_list; unrejected = λ j. v.unrejected (rejected_more f j) }

-- what is closed under some rules and defaults is closed under fewer
pub closed_fewer : {rule rule' : Rule → Type 0} {default default' : ℕ → Type 0} {Y : LiteralSet} → ((r : Rule) → rule' r → rule r) → ((a : ℕ) → default' a → default a) → Closed rule default Y → Closed rule' default' Y
closed_fewer f g c = record { heads = λ r v b. c.heads r (f r v) b; defaults = λ a d. c.defaults a (g a d) }

-- so the closure of fewer is smaller
pub closure_fewer : {rule rule' : Rule → Type 0} {default default' : ℕ → Type 0} {Y Y' : LiteralSet} → ((r : Rule) → rule' r → rule r) → ((a : ℕ) → default' a → default a) → Closure rule default Y → Closure rule' default' Y' → Y' ⊆ Y
closure_fewer {Y} f g s t = t.least Y (closed_fewer f g s.closed)

-- and the closure of the same, said otherwise, is the same
pub closure_same : {rule rule' : Rule → Type 0} {default default' : ℕ → Type 0} {Y : LiteralSet} → ((r : Rule) → rule r → rule' r) → ((r : Rule) → rule' r → rule r) → ((a : ℕ) → default a → default' a) → ((a : ℕ) → default' a → default a) → Closure rule default Y → Closure rule' default' Y
closure_same f f' g g' s = record { closed = closed_fewer f' g' s.closed; least = λ Z c. s.least Z (closed_fewer f g c) }

-- so a step turns inclusion round
pub antitone : {P : List Rule} {over : Overruling} {n : ℕ} {X Y X' Y' : LiteralSet} → X ⊆ Y → Step P over n X X' → Step P over n Y Y' → Y' ⊆ X'
antitone f s t = closure_fewer (λ r v. survives_less f v) (λ a d. default_less f d) s t

-- there is one step from each set
pub step_unique : {P : List Rule} {over : Overruling} {n : ℕ} {X Y Z : LiteralSet} → Step P over n X Y → Step P over n X Z → Y ≡ Z
step_unique {X} s t = ⊆_antisym (antitone (⊆_refl X) t s) (antitone (⊆_refl X) s t)

-- narrow rejection is broad rejection, so what is closed narrowly is closed broadly
pub narrow_broad : {P : List Rule} {over : Overruling} {X : LiteralSet} {r : Rule} → Rejected P (strictly over) X r → Rejected P over X r
narrow_broad {over} {r} j = record { rejecter = j.rejecter; of_the_list = j.of_the_list; rejects = let w = j.rejects in record { clash = w.clash; body_true = w.body_true; overrules = (and_parts (over j.rejecter.sheet r.sheet) (not (over r.sheet j.rejecter.sheet)) w.overrules).0 } }

pub survives_broad : {P : List Rule} {over : Overruling} {X : LiteralSet} {r : Rule} → Survives P over X r → Survives P (strictly over) X r
survives_broad v = record { of_the_list = v.of_the_list; unrejected = λ j. v.unrejected (narrow_broad j) }

pub closed_broad : {P : List Rule} {over : Overruling} {n : ℕ} {X Y : LiteralSet} → Closed (Survives P (strictly over) X) (Default P n X) Y → Closed (Survives P over X) (Default P n X) Y
closed_broad c = closed_fewer (λ r v. survives_broad v) (λ a d. d) c

-- a literal that a closure holds is a default, or the head of one of the rules that is no tautology and has its body there:
-- without the literal the set would be closed too
pub supported : {rule : Rule → Type 0} {default : ℕ → Type 0} {Y : LiteralSet} (s : Sign) (a : ℕ) → Closure rule default Y → Holds Y s a
    → (No ≡ s → default a → ⊥)
    → ((t : Rule) → rule t → body t ⊆ Y → t.sign ≡ s → t.head ≡ a → (Tautology t → ⊥) → ⊥) → ⊥
supported {rule} {default} {Y} s a st h f g = minus_not Y s a ((st.least (minus Y s a) smaller).each s a h)
  where
    smaller : Closed rule default (minus Y s a)
    smaller = record {
      heads = λ r v b. let y = ⊆_trans b (minus_less Y s a) in
          minus_other Y s a r.sign r.head (st.closed.heads r v y)
          (λ p q. g r v y p q (λ t. minus_not Y s a (subst₂ (Holds (minus Y s a)) p q (b.each r.sign r.head t))));
      defaults = λ b d. minus_other Y s a No b (st.closed.defaults b d) (λ p q. f p (subst default q d));
    }

module _ {P : List Rule} {over : Overruling} {n : ℕ} {X : LiteralSet} (total : Total over) (st : Step P over n X X) where
  -- in a fixpoint of the broad step a rule with a true body and the opposite of its head in the set is rejected,
  -- even narrowly, by a rule that is no tautology
  pub opposed : (r : Rule) → r ∈ P → body r ⊆ X → Holds X (opposite r.sign) r.head
      → ((t : Rule) → t ∈ P → (Tautology t → ⊥) → Rejects (strictly over) X t r → ⊥) → ⊥
  opposed r m b h f = supported (opposite r.sign) r.head st h
      (λ p d. d.unaffirmed r m (record { sign_is = opposite_opposite r.sign ∙ ap opposite (sym p); head_is = refl; body_true = b }))
      (λ t v y p q taut. f t v.of_the_list taut (record {
        clash = (q, p);
        body_true = y;
        overrules =
            ⊎_elim
            (λ o. absurd (v.unrejected (record { rejecter = r; of_the_list = m; rejects = record { clash = (sym q, opposite_opposite r.sign ∙ ap opposite (sym p)); body_true = b; overrules = o } })))
            (λ o. ⊎_elim
            (λ w. and_from (over t.sheet r.sheet) (not (over r.sheet t.sheet)) w (not_from_false (over r.sheet t.sheet) o))
            (λ w. absurd (both o w)) (total t.sheet r.sheet))
            (cases_Bool (over r.sheet t.sheet));
      }))
    where
      both : {x : Bool} → x ≡ false → x ≡ true → ⊥
      both p q = mathlib.Core.Bool.true≢false (sym q ∙ p)

-- under a total order an outcome's set is a fixpoint of the narrow step too
pub outcome_narrow : {P : List Rule} {over : Overruling} {n M : ℕ} → Total over → Formed n P → Outcome P over n M → Step P (strictly over) n (settled n M) (settled n M)
outcome_narrow {P} {over} {n} {M} total formed o = record {
  closed = record { heads = heads; defaults = st.closed.defaults };
  least = λ Z c. st.least Z (closed_broad c);
}
  where
    st : Step P over n (settled n M) (settled n M)
    st = o.1

    heads : (r : Rule) → Survives P (strictly over) (settled n M) r → body r ⊆ settled n M → Holds (settled n M) r.sign r.head
    heads r v b = ⊎_elim (λ h. h)
        (λ f. let m = v.of_the_list in absurd (opposed total st r m b (settled_other n M r.sign r.head o.0 (formed r m) f)
        (λ t i taut w. v.unrejected (record { rejecter = t; of_the_list = i; rejects = w }))))
        (holds_cases (settled n M) r.sign r.head)

pub outcome_turn : {P : List Rule} {over : Overruling} {n M : ℕ} → Total over → Formed n P → Outcome P over n M → Turn P over n (settled n M) (settled n M)
outcome_turn {n} {M} total formed o = record { between = settled n M; broad = o.1; narrow = outcome_narrow total formed o }

-- so an outcome includes the well-founded model
pub outcome_includes : {P : List Rule} {over : Overruling} {n M : ℕ} {X : LiteralSet} → Total over → Formed n P → Outcome P over n M → WellFounded P over n X → X ⊆ settled n M
outcome_includes {n} {M} total formed o w = w.least (settled n M) (outcome_turn total formed o)

-- two turns keep inclusion
pub turn_monotone : {P : List Rule} {over : Overruling} {n : ℕ} {X Y X' Y' : LiteralSet} → X ⊆ Y → Turn P over n X X' → Turn P over n Y Y' → X' ⊆ Y'
turn_monotone f t u = antitone (antitone f t.broad u.broad) u.narrow t.narrow

-- one set comes of a turn
pub turn_unique : {P : List Rule} {over : Overruling} {n : ℕ} {X Y Z : LiteralSet} → Turn P over n X Y → Turn P over n X Z → Y ≡ Z
turn_unique {X} t u = ⊆_antisym (turn_monotone (⊆_refl X) t u) (turn_monotone (⊆_refl X) u t)

-- every set on the way from the empty one is in each set that a turn leaves as it is
pub after_below : {P : List Rule} {over : Overruling} {n k : ℕ} {X : LiteralSet} (Z : LiteralSet) → Turn P over n Z Z → After P over n k X → X ⊆ Z
after_below Z u start = empty_⊆ Z
after_below Z u (more r t) = turn_monotone (after_below Z u r) t u

-- so the set where the turns come to rest is the well-founded model
pub rests_well_founded : {P : List Rule} {over : Overruling} {n k : ℕ} {X : LiteralSet} → Rests P over n k X → WellFounded P over n X
rests_well_founded r = record { stands = r.stays; least = λ Z u. after_below Z u r.comes }

pub outcome_includes_after : {P : List Rule} {over : Overruling} {n M k : ℕ} {X : LiteralSet} → Total over → Formed n P → Outcome P over n M → After P over n k X → X ⊆ settled n M
outcome_includes_after {n} {M} total formed o r = after_below (settled n M) (outcome_turn total formed o) r

pub well_founded_unique : {P : List Rule} {over : Overruling} {n : ℕ} {X Y : LiteralSet} → WellFounded P over n X → WellFounded P over n Y → X ≡ Y
well_founded_unique {X} {Y} v w = ⊆_antisym (v.least Y w.stands) (w.least X v.stands)

-- a step holds matters below n only
pub step_bounded : {P : List Rule} {over : Overruling} {n : ℕ} {X Y : LiteralSet} (s : Sign) (a : ℕ) → Formed n P → Step P over n X Y → Holds Y s a → a < n
step_bounded {P} {over} {n} s a formed st h = ⊎_elim (λ l. l)
    (λ l. absurd (supported s a st h
    (λ _ d. let u = d.a_matter in omega arith)
    (λ t v _ _ q _. let u = formed t v.of_the_list in omega arith)))
    (cases_lt a n)

-- a search need only try the sets between the model's yes set and what its no set leaves; so a model with both signs of a matter leaves none
pub outcome_between : {P : List Rule} {over : Overruling} {n M : ℕ} {X : LiteralSet} → Total over → Formed n P → Outcome P over n M → WellFounded P over n X
    → ((a : ℕ) → Mem a X.0 → Mem a M) × ((a : ℕ) → Mem a X.1 → Mem a M → ⊥)
outcome_between {n} {M} total formed o w =
    let f = outcome_includes total formed o w in
    (f.each Yes, λ a h k. settled_one n M a o.0 k (f.each No a h))

-- the way of a loop to the closure: Y holds the defaults and is in each closed set; it starts as the defaults, a round keeps it,
-- and where a round adds nothing it is the closure
pub record Below (Q : List Rule) (m : ℕ) (Y : LiteralSet) : Type 0 where
  pub defaults : (a : ℕ) → Mem a m → Holds Y No a
  pub below : (Z : LiteralSet) → Closed (λ r. r ∈ Q) (λ a. Mem a m) Z → Y ⊆ Z

pub below_start : (Q : List Rule) (m : ℕ) → Below Q m (0, m)
below_start Q m = record {
  defaults = λ a h. h;
  below = λ Z c. record { each = elim [ Yes ↦ λ a h. absurd (not_in_zero a h) | No ↦ λ a h. c.defaults a h ] };
}

pub below_more : {Q : List Rule} {m : ℕ} {Y Z : LiteralSet} → Below Q m Y → Round Q Y Z → Below Q m Z
below_more b r = record {
  defaults = λ a d. r.keeps.each No a (b.defaults a d);
  below = λ W c. r.least W (b.below W c) (λ q m t. c.heads q m (⊆_trans t (b.below W c)));
}

pub below_end : {Q : List Rule} {m : ℕ} {Y : LiteralSet} → Below Q m Y → Round Q Y Y → Closure (λ r. r ∈ Q) (λ a. Mem a m) Y
below_end b r = record { closed = record { heads = r.heads; defaults = b.defaults }; least = b.below }

-- comparing the step from M's set with that set tells whether M is an outcome
pub decides_outcome : {P : List Rule} {over : Overruling} {n M : ℕ} {X Y : LiteralSet} (b : Bool) → X ≡ settled n M → M < 2 ^ n → Step P over n X Y → Decides b (Y ≡ X) → Decides b (Outcome P over n M)
decides_outcome {P} {over} {n} {M} {X} {Y} b e l s d =
    let t = subst (λ (Z : LiteralSet). Step P over n Z Y) e s in (
      (λ h. (l, subst (λ (Z : LiteralSet). Step P over n (settled n M) Z) (d.0 h ∙ e) t)),
      (λ o. d.1 (step_unique t o.1 ∙ sym e)),
    )
