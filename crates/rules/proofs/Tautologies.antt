-- Tautologies change no outcome.
use Rattle.std.proofs.Common.{◌≡◌, ℕ, ◌/◌, ◌%◌, ◌^◌, not, ◌⊎◌, List, Decides, sym, subst, subst₂, inl, inr, ⊎_elim}
use Rattle.std.proofs.lemmas.Bool.{and_parts}
use Rattle.std.proofs.lemmas.Bool.Decides.{Decides-eqb, Decides-not}
use Rattle.rules.specs.declared.rule.Rule.{Rule}
use Rattle.rules.specs.declared.rule.Sign.{Sign}
use Rattle.rules.specs.declared.rule.Sign.TheVariants.{Yes, No}
use Rattle.rules.specs.Semantics.{LiteralSet, Holds, ◌⊆◌, ◌∈◌, body, Overruling, Total, Rejects, Rejected, Survives, Affirms, Default, Closed, Step, Outcome, Tautology, holds, struck, Lists}
use Rattle.rules.proofs.Literals.{yes≢no, ⊆_trans, holds_cases, meet, meet_both, meet_left, meet_right}
use Rattle.rules.proofs.Theory.{supported, opposed}
use Rattle.rules.proofs.Computed.{kept_mem, mem_kept, lists_unique}

-- P and Q have the same rules, but for tautologies
pub record SameButTautologies (P Q : List Rule) : Type 0 where
  pub there : (r : Rule) → (Tautology r → ⊥) → r ∈ P → r ∈ Q
  pub back : (r : Rule) → (Tautology r → ⊥) → r ∈ Q → r ∈ P

pub tautology_cases : (r : Rule) → (Tautology r) ⊎ (Tautology r → ⊥)
tautology_cases r = holds_cases (body r) r.sign r.head

pub turned : {P Q : List Rule} → SameButTautologies P Q → SameButTautologies Q P
turned e = record { there = e.back; back = e.there }

module _ {P Q : List Rule} {over : Overruling} {n : ℕ} {X : LiteralSet} (total : Total over) (e : SameButTautologies P Q) (st : Step P over n X X) where
  -- a rule of P with a true body that some rule rejects is rejected by a rule of both lists: by that one, if it is no tautology;
  -- and if it is one, its head is in X, so that another rule has the same head and rejects it too
  both_reject : (r s : Rule) → r ∈ P → body r ⊆ X → Rejects over X s r → (s ∈ P) ⊎ (s ∈ Q) → ((t : Rule) → t ∈ P → t ∈ Q → Rejects over X t r → ⊥) → ⊥
  both_reject r s m b w i f = ⊎_elim
      (λ taut. opposed total st r m b (subst₂ (Holds X) w.clash.1 w.clash.0 (w.body_true.each s.sign s.head taut))
      (λ t k no v. f t k (e.there t no k) (record {
        clash = v.clash;
        body_true = v.body_true;
        overrules = (and_parts (over t.sheet r.sheet) (not (over r.sheet t.sheet)) v.overrules).0;
      })))
      (λ no. ⊎_elim (λ k. f s k (e.there s no k) w) (λ k. f s (e.back s no k) k w) i)
      (tautology_cases s)

  to_Q : (r : Rule) → r ∈ P → body r ⊆ X → Rejected P over X r → (Rejected Q over X r → ⊥) → ⊥
  to_Q r m b j f = both_reject r j.rejecter m b j.rejects (inl j.of_the_list) (λ t _ k w. f (record { rejecter = t; of_the_list = k; rejects = w }))

  to_P : (r : Rule) → r ∈ P → body r ⊆ X → Rejected Q over X r → (Rejected P over X r → ⊥) → ⊥
  to_P r m b j f = both_reject r j.rejecter m b j.rejects (inr j.of_the_list) (λ t k _ w. f (record { rejecter = t; of_the_list = k; rejects = w }))

  -- what a rule of either list affirms, a rule of both affirms
  both_affirm : (r : Rule) (a : ℕ) → Affirms X a r → (r ∈ P) ⊎ (r ∈ Q) → ((t : Rule) → t ∈ P → t ∈ Q → Affirms X a t → ⊥) → ⊥
  both_affirm r a w i f = ⊎_elim
      (λ taut. supported Yes a st (subst₂ (Holds X) w.sign_is w.head_is (w.body_true.each r.sign r.head taut))
      (λ q _. yes≢no (sym q))
      (λ t v y q h no. let k = v.of_the_list in f t k (e.there t no k) (record { sign_is = q; head_is = h; body_true = y })))
      (λ no. ⊎_elim (λ k. f r k (e.there r no k) w) (λ k. f r (e.back r no k) k w) i)
      (tautology_cases r)

  default_to_P : (a : ℕ) → Default Q n X a → Default P n X a
  default_to_P a d = record { a_matter = d.a_matter; unaffirmed = λ r m w. both_affirm r a w (inl m) (λ t _ k v. d.unaffirmed t k v) }

  default_to_Q : (a : ℕ) → Default P n X a → Default Q n X a
  default_to_Q a d = record { a_matter = d.a_matter; unaffirmed = λ r m w. both_affirm r a w (inr m) (λ t k _ v. d.unaffirmed t k v) }

  closed_Q : Closed (Survives Q over X) (Default Q n X) X
  closed_Q = record {
    heads = λ r v b. ⊎_elim
        (λ t. b.each r.sign r.head t)
        (λ t. let i = e.back r t v.of_the_list in st.closed.heads r (record { of_the_list = i; unrejected = λ j. to_Q r i b j v.unrejected }) b)
        (tautology_cases r);
    defaults = λ a d. st.closed.defaults a (default_to_P a d);
  }

  closed_meet : (Z : LiteralSet) → Closed (Survives Q over X) (Default Q n X) Z → Closed (Survives P over X) (Default P n X) (meet X Z)
  closed_meet Z c = record {
    heads = λ r v b. let m = v.of_the_list in let x = ⊆_trans b (meet_left X Z) in let z = ⊆_trans b (meet_right X Z) in
        meet_both X Z r.sign r.head (st.closed.heads r v x)
        (⊎_elim
        (λ t. z.each r.sign r.head t)
        (λ t. c.heads r (record { of_the_list = e.there r t m; unrejected = λ j. to_P r m x j v.unrejected }) z)
        (tautology_cases r));
    defaults = λ a d. meet_both X Z No a (st.closed.defaults a d) (c.defaults a (default_to_Q a d));
  }

  -- a fixpoint of the broad step for P is one for Q
  pub same_fixpoint : Step Q over n X X
  same_fixpoint = record { closed = closed_Q; least = λ Z c. ⊆_trans (st.least (meet X Z) (closed_meet Z c)) (meet_right X Z) }

pub same_outcome : {P Q : List Rule} {over : Overruling} {n M : ℕ} → Total over → SameButTautologies P Q → Outcome P over n M → Outcome Q over n M
same_outcome total e o = (o.0, same_fixpoint total e o.1)

pub decides_holds : (X : LiteralSet) (s : Sign) (a : ℕ) → Decides (holds X s a) (Holds X s a)
decides_holds X Yes a = Decides-eqb (X.0 / 2 ^ a % 2) 1
decides_holds X No a = Decides-eqb (X.1 / 2 ^ a % 2) 1

-- tautologies struck out

pub struck_same : (P : List Rule) → SameButTautologies P (struck P)
unfolding struck
struck_same P = record {
  there = λ r t m. kept_mem (λ q. not (holds (body q) q.sign q.head)) r P m ((Decides-not (holds (body r) r.sign r.head) (decides_holds (body r) r.sign r.head)).1 t);
  back = λ r t m. (mem_kept (λ q. not (holds (body q) q.sign q.head)) r P m).0;
}

pub equal_struck : (P Q : List Rule) → struck P ≡ struck Q → SameButTautologies P Q
equal_struck P Q e = record {
  there = λ r t m. (struck_same Q).back r t (subst (λ (l : List Rule). r ∈ l) e ((struck_same P).there r t m));
  back = λ r t m. (struck_same P).back r t (subst (λ (l : List Rule). r ∈ l) (sym e) ((struck_same Q).there r t m));
}

pub same_lists : {P Q : List Rule} {over : Overruling} {n : ℕ} {Ms Ns : List ℕ} → Total over → SameButTautologies P Q → Lists P over n Ms → Lists Q over n Ns → Ms ≡ Ns
same_lists total e l k = lists_unique l (record { ascending = k.ascending; only = λ M m. same_outcome total (turned e) (k.only M m); all = λ M o. k.all M (same_outcome total e o) })
