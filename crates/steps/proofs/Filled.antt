-- What the calls of `array::from_fn` gave, by their places.
use Rattle.std.proofs.Common.{◌≡◌, ℕ, zero, suc, ◌+◌, ◌<◌, ◌≤◌, List, get_or, sym, subst, ⊎_elim, arith}
use denote.Param.Members.{Mut, Called}
use Rattle.std.proofs.lemmas.Bool.{cases_lt}
use Rattle.std.specs.Array.{IsFromFnResult, IsFromFnResultFrom}

module _ {F B : Type 0} (g : Mut F (ℕ × Unit {0}) B) (P : ℕ → B → Type 0) (f : F) (top : ℕ) (step : (i : ℕ) (y : B) (q : F) → i < top → Called g f (i, tt) y q → P i y × (q ≡ f)) where
  filled_from : (d : B) (ys : List B) (i n : ℕ) → i + n ≤ top → IsFromFnResultFrom g f ys i n → (k : ℕ) → i ≤ k → k < i + n → P k (get_or ys k d)
  filled_from d ys i zero t h k a b = absurd (omega arith)
  filled_from d ys i (suc n) t h k a b =
      let s = step i h.1 h.0 (omega arith) h.3 in
      let rest = filled_from d ys (i + 1) n (omega arith) (subst (λ (q : F). IsFromFnResultFrom g q ys (i + 1) n) s.1 h.4) k in
      ⊎_elim
      (λ l. rest (omega arith) (omega arith))
      (λ l. let e : i ≡ k = omega arith in subst (λ (j : ℕ). P j (get_or ys j d)) e (subst (P i) (sym (h.2.1 d)) s.0))
      (cases_lt i k)

  pub filled : (d : B) {ys : List B} → IsFromFnResult g f ys top → (k : ℕ) → k < top → P k (get_or ys k d)
  filled d {ys} h k l = filled_from d ys 0 top (omega arith) h.each k (omega arith) (omega arith)
