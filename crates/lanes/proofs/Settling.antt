-- A two-valued set stands under the broad step exactly if each matter stands and the closure reaches all of it.
use Rattle.std.proofs.Common.{◌≡◌, ℕ, ◌^◌, ◌<◌, List, sym, refl, ap, ◌∙◌, subst, inl, inr, ⊎_elim}
use Rattle.rules.specs.declared.rule.Rule.{Rule}
use Rattle.rules.specs.declared.rule.Sign.{Sign}
use Rattle.rules.specs.declared.rule.Sign.TheVariants.{Yes, No}
use Rattle.rules.specs.Semantics.{Holds, ◌⊆◌, body, opposite, Overruling, Total, Survives, Default, Closed, Step, settled, Formed}
use Rattle.rules.proofs.Bitwise.{mem_cases}
use Rattle.rules.proofs.Literals.{yes≢no, sign_cases, opposite_opposite, settled_other}
use Rattle.rules.proofs.Theory.{supported}
use Rattle.lanes.specs.Settling.{Backed, Stands}

module _ (Q : List Rule) (over : Overruling) (n M : ℕ) (total : Total over) (formed : Formed n Q) (small : M < 2 ^ n) where
  -- both sides of a matter cannot be backed
  pub one_side : (s : Sign) (a : ℕ) → Backed Q over (settled n M) s a → (r : Rule) → Survives Q over (settled n M) r → body r ⊆ settled n M → r.sign ≡ opposite s → r.head ≡ a → ⊥
  one_side s a b r v t e h = ⊎_elim
      (λ o. v.unrejected (record { rejecter = b.backer; of_the_list = b.survives.of_the_list; rejects = record { clash = (b.head_is ∙ sym h, b.sign_is ∙ (opposite_opposite s ∙ ap opposite (sym e))); body_true = b.body_true; overrules = o } }))
      (λ o. b.survives.unrejected (record { rejecter = r; of_the_list = v.of_the_list; rejects = record { clash = (h ∙ sym b.head_is, e ∙ ap opposite (sym b.sign_is)); body_true = t; overrules = o } }))
      (total b.backer.sheet r.sheet)

  -- what stands is closed
  pub stands_closed : ((a : ℕ) → a < n → Stands Q over n (settled n M) a) → Closed (Survives Q over (settled n M)) (Default Q n (settled n M)) (settled n M)
  stands_closed st = record {
    heads = λ r v b. ⊎_elim
        (λ w. ⊎_elim
        (λ e. subst (λ (s : Sign). Holds (settled n M) s r.head) (sym e) w.0)
        (λ e. absurd (one_side Yes r.head w.1 r v b e refl))
        (sign_cases r.sign Yes))
        (λ w. ⊎_elim
        (λ e. subst (λ (s : Sign). Holds (settled n M) s r.head) (sym e) w.0)
        (λ e. ⊎_elim
        (λ k. absurd (one_side No r.head k r v b e refl))
        (λ d. absurd (d.unaffirmed r v.of_the_list (record { sign_is = e; head_is = refl; body_true = b })))
        w.1)
        (sign_cases r.sign No))
        (st r.head (formed r v.of_the_list));
    defaults = λ a d. ⊎_elim
        (λ w. let b = w.1 in absurd (d.unaffirmed b.backer b.survives.of_the_list (record { sign_is = b.sign_is; head_is = b.head_is; body_true = b.body_true })))
        (λ w. w.0)
        (st a d.a_matter);
  }

  -- in an outcome each matter stands
  pub outcome_stands : Step Q over n (settled n M) (settled n M) → (a : ℕ) → a < n → (Stands Q over n (settled n M) a → ⊥) → ⊥
  outcome_stands st a l f = ⊎_elim
      (λ h. supported Yes a st h (λ e _. yes≢no (sym e)) (λ t v b p q _. f (inl (h, record { backer = t; survives = v; body_true = b; sign_is = p; head_is = q }))))
      (λ g. let h = settled_other n M Yes a small l g in
      supported No a st h (λ _ d. f (inr (h, inr d))) (λ t v b p q _. f (inr (h, inl (record { backer = t; survives = v; body_true = b; sign_is = p; head_is = q })))))
      (mem_cases a M)
