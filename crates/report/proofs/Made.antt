-- An array that is made by a call at each place.
use Rattle.std.proofs.Common.{◌≡◌, ℕ, zero, suc, ◌+◌, ◌<◌, List, get_or, map, ◌∙◌, add-zero, zero-add, arith}
use Rattle.std.specs.Fn.{Called, Mut}
use Rattle.std.specs.List.{range_with_len}
use Rattle.std.specs.Array.{IsFromFnResultFrom, IsFromFnResult}
use Rattle.std.proofs.lemmas.List.FromFn.{fill_by_all}

-- keeps says what holds of the closure before each call
module _ {F : Type 0} (g : Mut F (ℕ × Unit {0}) ℕ) (f : ℕ → ℕ) (keeps : F → Type 0) (one : (s : F) (i y : ℕ) (t : F) → keeps s → Called g s (i, tt) y t → (y ≡ f i) × keeps t) where
  made_at : (s : F) (ys : List ℕ) (a n : ℕ) → keeps s → IsFromFnResultFrom g s ys a n → (k : ℕ) → k < n → get_or ys (a + k) 0 ≡ f (a + k)
  made_at s ys a zero h each k lt = absurd (omega arith)
  made_at s ys a (suc n) h each zero lt = rw add-zero (each.2.1 0 ∙ (one s a each.1 each.0 h each.3).0)
  made_at s ys a (suc n) h each (suc k) lt =
      let next : a + 1 + k ≡ a + suc k = omega arith in
      rw next at (made_at each.0 ys (a + 1) n (one s a each.1 each.0 h each.3).1 each.4 k (omega arith))

  pub made : (s : F) (ys : List ℕ) (n : ℕ) → keeps s → IsFromFnResult g s ys n → ys ≡ map f (range_with_len 0 n)
  made s ys n h items = fill_by_all f ys n 0 items.long (λ k lt. rw zero-add at (made_at s ys 0 n h items.each k lt))
