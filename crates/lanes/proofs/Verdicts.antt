-- The lanes that a trial leaves are those of outcomes.
use Rattle.std.proofs.Common.{◌≡◌, ℕ, zero, suc, ◌^◌, ◌<◌, ◌≤◌, List, subst, ⊎_elim, arith}
use Rattle.std.proofs.lemmas.Bool.{cases_lt}
use Rattle.rules.specs.declared.rule.Rule.{Rule}
use Rattle.rules.specs.Semantics.{Mem, Overruling, Total, Formed, Outcome, settled, struck}
use Rattle.rules.proofs.Bitwise.{mem_cases, not_in_zero}
use Rattle.rules.proofs.Tautologies.{same_outcome, struck_same, turned}
use Rattle.steps.specs.Parts.{SetOf}
use Rattle.lanes.specs.Founding.{FoundedIn}
use Rattle.lanes.specs.Settling.{Stands}
use Rattle.lanes.specs.Trying.{StandFrom}
use Rattle.lanes.proofs.Founding.{founded_step, step_founded}
use Rattle.lanes.proofs.Settling.{outcome_stands}
use Rattle.lanes.proofs.Trying.{sweep_start}

-- of finitely many, if none can fail then not all can fail together
together : (n : ℕ) (S : ℕ → Type 0) → ((a : ℕ) → a < n → (S a → ⊥) → ⊥) → (((a : ℕ) → a < n → S a) → ⊥) → ⊥
together zero S each f = f (λ a l. absurd (omega arith))
together (suc n) S each f = together n S (λ a l. each a (omega arith)) (λ below. each n (omega arith) (λ top. f (λ a l. ⊎_elim (λ h. below a h) (λ h. let e : n ≡ a = omega arith in subst S e top) (cases_lt a n))))

module _ (P : List Rule) (over : Overruling) (n : ℕ) (M : ℕ → ℕ) (total : Total over) (formed : Formed n (struck P)) (small : (l : ℕ) → M l < 2 ^ n) where
  -- in an outcome all matters stand, whatever false thing would follow otherwise
  all_stand : (l : ℕ) → Outcome P over n (M l) → (((a : ℕ) → a < n → Stands (struck P) over n (settled n (M l)) a) → ⊥) → ⊥
  all_stand l o = together n (Stands (struck P) over n (settled n (M l))) (outcome_stands (struck P) over n (M l) total formed (small l) (same_outcome total (struck_same P) o).1)

  -- where no lane is left, there is no outcome
  pub none_left : (w v : ℕ) → v ≡ 0 → ((l : ℕ) → Mem l w → ((a : ℕ) → a < n → Stands (struck P) over n (settled n (M l)) a) → Mem l v) → SetOf v (λ l. Mem l w × Outcome P over n (M l))
  none_left w v z f = record {
    all = λ l h. absurd (all_stand l h.1 (λ st. not_in_zero l (subst (Mem l) z (f l h.0 st))));
    only = λ l h. absurd (not_in_zero l (subst (Mem l) z h));
  }

  module _ (first w a s r : ℕ) (above : SetOf a (StandFrom P over n (λ l. settled n (M l)) first n w)) (below : SetOf s (StandFrom P over n (λ l. settled n (M l)) 0 first a)) (in-n : first ≤ n) where
    pub in_above : (l : ℕ) → Mem l w → ((b : ℕ) → b < n → Stands (struck P) over n (settled n (M l)) b) → Mem l a
    in_above l h st = above.all l (h, λ b p q. st b q)

    pub in_standing : (l : ℕ) → Mem l w → ((b : ℕ) → b < n → Stands (struck P) over n (settled n (M l)) b) → Mem l s
    in_standing l h st = below.all l (in_above l h st, λ b p q. st b (omega arith))

    pub left_outcomes : FoundedIn (struck P) over n (λ l. settled n (M l)) s r → SetOf r (λ l. Mem l w × Outcome P over n (M l))
    left_outcomes founded = record {
      all = λ l h. ⊎_elim
          (λ m. m)
          (λ f. absurd (all_stand l h.1 (λ st. let k = in_standing l h.0 st in
          f (founded.lanes.all l (k, step_founded (struck P) over n M s r total formed small founded l k st (same_outcome total (struck_same P) h.1).1)))))
          (mem_cases l r);
      only = λ l h.
          let k = founded.lanes.only l h in
          let b = below.only l k.0 in
          let t = above.only l b.0 in
          let st : (i : ℕ) → i < n → Stands (struck P) over n (settled n (M l)) i = λ i p. ⊎_elim (λ q. b.1 i (omega arith) q) (λ q. t.1 i q p) (cases_lt i first) in
          (t.0, same_outcome total (turned (struck_same P)) (small l, founded_step (struck P) over n M s r total formed small founded l k.0 st k.1));
    }

  -- the same of one sweep over all matters
  module _ (w s : ℕ) (standing : SetOf s (StandFrom P over n (λ l. settled n (M l)) 0 n w)) where
    pub in_swept : (l : ℕ) → Mem l w → ((b : ℕ) → b < n → Stands (struck P) over n (settled n (M l)) b) → Mem l s
    in_swept l h st = standing.all l (h, λ b _ q. st b q)

    pub swept_outcomes : (r : ℕ) → FoundedIn (struck P) over n (λ l. settled n (M l)) s r → SetOf r (λ l. Mem l w × Outcome P over n (M l))
    swept_outcomes r founded = left_outcomes n w w s r (sweep_start P over n (λ l. settled n (M l)) n w) standing (omega arith) founded
