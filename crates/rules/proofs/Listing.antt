-- Yes a loop that lists the outcomes: those below m, one more, and all of them.
use Rattle.std.proofs.Common.{◌≡◌, ℕ, ◌+◌, ◌-◌, ◌^◌, ◌<◌, ◌≤◌, List, [], ◌∷◌, ◌++◌, length, take, drop, set, filter, sym, refl, ap, ◌∙◌, subst, ⊎_elim, arith, length-append, length-set, drop-drop, drop-set-lt}
use mathlib.Core.List.Memᴰ
use mathlib.Core.List.{Memᴰ}
use lib.Seq.{take-append_seam}
use Rattle.std.specs.List.{range_with_len}
use Rattle.std.proofs.ByRecursion.{All-append}
use Rattle.std.proofs.lemmas.List.{take_more_set}
use Rattle.std.proofs.lemmas.Bool.{cases_lt}
use Rattle.rules.specs.declared.rule.Rule.{Rule}
use Rattle.rules.specs.Semantics.{Overruling, Outcome, Ascending, Lists}
use Rattle.rules.proofs.Computed.{fixed, decides_fixed, counting_has, counting_only, kept_mem, mem_kept, kept_ascending, mem_length, all_members, all_member}

-- Ms lists the outcomes below m
pub record ListsBelow (P : List Rule) (over : Overruling) (n m : ℕ) (Ms : List ℕ) : Type 0 where
  pub ascending : Ascending Ms
  pub only : (M : ℕ) → Memᴰ M Ms → (M < m) × Outcome P over n M
  pub all : (M : ℕ) → M < m → Outcome P over n M → Memᴰ M Ms

pub ascending_append : (xs ys : List ℕ) → Ascending xs → Ascending ys → ((x y : ℕ) → Memᴰ x xs → Memᴰ y ys → x < y) → Ascending (xs ++ ys)
ascending_append [] ys a b f = b
ascending_append (x ∷ xs) ys a b f = (
  All-append (λ z. x < z) xs ys a.0 (all_members (λ z. x < z) ys (λ y m. f x y (Memᴰ.head refl) m)),
  ascending_append xs ys a.1 b (λ z y i j. f z y (Memᴰ.tail i) j),
)

module _ {P : List Rule} {over : Overruling} {n : ℕ} where
  pub lists_none : ListsBelow P over n 0 []
  lists_none = record { ascending = tt; only = λ M i. absurd (Memᴰ.not-nil i); all = λ M l. absurd (omega arith) }

  -- those below m, and then some of those from m on
  joined : (m k : ℕ) (Ms Ks : List ℕ) → ListsBelow P over n m Ms → m ≤ k → Ascending Ks
      → ((M : ℕ) → Memᴰ M Ks → (m ≤ M) × (M < k) × Outcome P over n M) → ((M : ℕ) → m ≤ M → M < k → Outcome P over n M → Memᴰ M Ks) → ListsBelow P over n k (Ms ++ Ks)
  joined m k Ms Ks l le a f g = record {
    ascending = ascending_append Ms Ks l.ascending a (λ x y i j. let u = (l.only x i).0 in let v = (f y j).0 in omega arith);
    only = λ M i. ⊎_elim (λ j. let w = l.only M j in ((let h = w.0 in omega arith), w.1)) (λ j. let w = f M j in (w.1, w.2)) (Memᴰ.append_cases Ms i);
    all = λ M h o. ⊎_elim (λ j. Memᴰ.append_left Ks (l.all M j o)) (λ j. Memᴰ.append_right Ms (g M j h o)) (cases_lt M m);
  }

  pub lists_more : (m : ℕ) (Ms : List ℕ) → ListsBelow P over n m Ms → Outcome P over n m → ListsBelow P over n (m + 1) (Ms ++ (m ∷ []))
  lists_more m Ms l o = joined m (m + 1) Ms (m ∷ []) l (omega arith) (tt, tt)
      (λ M i. let e = Memᴰ.eq_of_singleton i in (omega arith, omega arith, subst (λ (x : ℕ). Outcome P over n x) (sym e) o))
      (λ M h k _. Memᴰ.head (omega arith))

  pub lists_all : {Ms : List ℕ} → ListsBelow P over n (2 ^ n) Ms → Lists P over n Ms
  lists_all l = record { ascending = l.ascending; only = λ M i. (l.only M i).1; all = λ M o. l.all M o.0 o }

  from_on : (m M : ℕ) → m ≤ M → M < 2 ^ n → Outcome P over n M → Memᴰ M (filter (fixed P over n) (range_with_len m (2 ^ n - m)))
  from_on m M h k q = kept_mem (fixed P over n) M (range_with_len m (2 ^ n - m)) (counting_has m (2 ^ n - m) M h (omega arith)) ((decides_fixed P over n M).1 q.1)

  -- where there is one more, the list of all is longer, and begins with those below m
  pub lists_over : (m : ℕ) (Ms : List ℕ) → ListsBelow P over n m Ms → Outcome P over n m → (Ns : List ℕ) × Lists P over n Ns × (length Ms < length Ns) × (Ms ≡ take (length Ms) Ns)
  lists_over m Ms l o = let Ks = filter (fixed P over n) (range_with_len m (2 ^ n - m)) in (
    Ms ++ Ks,
    lists_all (joined m (2 ^ n) Ms Ks l (let h = o.0 in omega arith) (kept_ascending (fixed P over n) m (2 ^ n - m))
        (λ M i. let w = mem_kept (fixed P over n) M (range_with_len m (2 ^ n - m)) i in let v = counting_only m (2 ^ n - m) M w.0 in
        ((let h = o.0 in omega arith), (let h = o.0 in omega arith), ((let h = o.0 in omega arith), (decides_fixed P over n M).0 w.1)))
        (λ M h k q. from_on m M h k q)),
    (let p = mem_length m Ks (from_on m m (omega arith) o.0 o) in let e = length-append Ms Ks in omega arith),
    sym (take-append_seam Ms Ks),
  )

-- in a list of places: the outcomes below m stand in the first places, and the others hold what they held
pub record Found (P : List Rule) (over : Overruling) (n m count : ℕ) (old new : List ℕ) : Type 0 where
  pub room : count ≤ length new
  pub found : ListsBelow P over n m (take count new)
  pub rest : drop count new ≡ drop count old

pub found_start : {P : List Rule} {over : Overruling} {n : ℕ} (old : List ℕ) → Found P over n 0 0 old old
found_start old = record { room = omega arith; found = lists_none; rest = refl }

pub found_more : {P : List Rule} {over : Overruling} {n m count : ℕ} {old new : List ℕ} → Found P over n m count old new → Outcome P over n m → count < length new → Found P over n (m + 1) (count + 1) old (set new count m)
found_more {P} {over} {n} {m} {count} {old} {new} f o l = record {
  room = simp length-set (omega arith);
  found = subst (ListsBelow P over n (m + 1)) (sym (take_more_set new count m l)) (lists_more m (take count new) f.found o);
  rest = drop-set-lt (count + 1) new count m (omega arith) ∙ sym (drop-drop 1 count new) ∙ ap (drop 1) f.rest ∙ drop-drop 1 count old;
}

-- an ascending list of numbers from a on and below b is no longer than that
ascending_short : (a b : ℕ) (xs : List ℕ) → a ≤ b → Ascending xs → ((x : ℕ) → Memᴰ x xs → (a ≤ x) × (x < b)) → length xs + a ≤ b
ascending_short a b [] l h f = omega arith
ascending_short a b (x ∷ xs) l h f =
    let w = f x (Memᴰ.head refl) in
    let further = ascending_short (x + 1) b xs (let u = w.1 in omega arith) h.1 (λ y m. let u = all_member (λ z. x < z) xs y h.0 m in ((omega arith), (f y (Memᴰ.tail m)).1)) in
    let u = w.0 in
    omega arith

-- so there are at most 2 ^ n outcomes
pub lists_short : {P : List Rule} {over : Overruling} {n : ℕ} {Ms : List ℕ} → Lists P over n Ms → length Ms ≤ 2 ^ n
lists_short {n} {Ms} l = let h = ascending_short 0 (2 ^ n) Ms (omega arith) l.ascending (λ x m. (omega arith, (l.only x m).0)) in omega arith
