-- What a filter keeps, and how many: over any type.
use Rattle.std.specs.Prelude.{◌≡◌, ℕ, zero, suc, ◌+◌, ◌<◌, ◌≤◌, Bool, true, false, cond, List, [], ◌∷◌, map, length, filter, slice_index_or, refl}
use Rattle.std.proofs.Common.{arith}
use Rattle.std.specs.List.{range_with_len}

module _ {X : Type 0} (d : X) where
  pub kept_nothing : (p : X → Bool) (xs : List X) → ((k : ℕ) → k < length xs → p (slice_index_or xs k d) ≡ false) → filter p xs ≡ []
  kept_nothing p [] h = refl
  kept_nothing p (x ∷ xs) h = let e : p x ≡ false = h 0 (omega arith) in rw e (kept_nothing p xs (λ k l. h (suc k) (omega arith)))

  pub kept_same : (p q : X → Bool) (xs : List X) → ((k : ℕ) → k < length xs → p (slice_index_or xs k d) ≡ q (slice_index_or xs k d)) → filter p xs ≡ filter q xs
  kept_same p q [] h = refl
  kept_same p q (x ∷ xs) h =
      let e : p x ≡ q x = h 0 (omega arith) in
      let r = kept_same p q xs (λ k l. h (suc k) (omega arith)) in
      rw (e, r)

-- each x passes q or r where it passes p, and not both
abbrev pub bit : Bool → ℕ
bit b = cond b 1 0

module _ {X : Type 0} where
  length_kept : (p : X → Bool) (x : X) (xs : List X) → length (filter p (x ∷ xs)) ≡ bit (p x) + length (filter p xs)
  length_kept p x xs = go (p x)
    where
      go : (b : Bool) → length (cond b (x ∷ filter p xs) (filter p xs)) ≡ bit b + length (filter p xs)
      go true = omega arith
      go false = omega arith

  pub kept_split : (p q r : X → Bool) (xs : List X) → ((x : X) → bit (p x) ≡ bit (q x) + bit (r x)) → length (filter p xs) ≡ length (filter q xs) + length (filter r xs)
  kept_split p q r [] h = refl
  kept_split p q r (x ∷ xs) h =
      let e = kept_split p q r xs h in
      omega (arith, length_kept p x xs, length_kept q x xs, length_kept r x xs, h x)

pub same_counted : {Y : Type 0} (f g : ℕ → Y) (a n : ℕ) → ((i : ℕ) → a ≤ i → i < a + n → f i ≡ g i) → map f (range_with_len a n) ≡ map g (range_with_len a n)
same_counted f g a zero h = refl
same_counted f g a (suc n) h =
    let e : f a ≡ g a = h a (omega arith) (omega arith) in
    let r = same_counted f g (a + 1) n (λ i l u. h i (omega arith) (omega arith)) in
    rw (e, r)
