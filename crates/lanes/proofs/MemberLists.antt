-- The members of a set, listed from the lowest up.
use Rattle.std.proofs.Common.{◌≡◌, ℕ, zero, suc, ◌+◌, ◌-◌, ◌/◌, ◌%◌, ◌^◌, ◌<◌, ◌≤◌, Bool, true, false, cond, ◌⊎◌, List, [], ◌∷◌, ◌++◌, length, get_or, filter, Some, sym, refl, ap, ◌∙◌, subst, inl, inr, ⊎_elim, true≢false, w32, arith}
use mathlib.Core.List.{Memᴰ}
use mathlib.Core.List.Memᴰ
use lib.Bits.{bit_and, bit_or}
use lib.Count.{count_trailing_zeros}
use Rattle.std.specs.List.{range_with_len}
use denote.Param.Members.{Mut, Called}
use Rattle.std.specs.Fn.{Takes}
use Rattle.std.specs.Iterator.{Yields, YieldsFirst, FoldTurn, CallableInFold, FoldsItems}
use Rattle.std.proofs.lemmas.Fn.{fold_over, serves_by}
use Rattle.std.proofs.lemmas.Iterator.{YieldsList}
use Rattle.std.proofs.lemmas.Iterator.Consumers.{YieldsList-from_first, YieldsList-turn}
use Rattle.std.proofs.lemmas.Nat.Bits.{bit_at-trailing_zeros}
use Rattle.std.proofs.lemmas.Bool.{cases_lt, cases_eq, cases_Bool, eqb-true, eq-eqb}
use Rattle.rules.specs.Semantics.{Mem, member}
use Rattle.rules.proofs.Bitwise.{mem_below, mem_and, mem_and_left, mem_and_right, mem_or_left, mem_or_right, mem_or_cases, not_in_zero}
use Rattle.rules.proofs.Computed.{kept_mem, mem_kept}
use Rattle.steps.specs.Parts.{SetOf}
use Rattle.steps.proofs.SetOfs.{set_same}
use Rattle.lanes.specs.declared.members.Members.{Members}
use Rattle.lanes.specs.Members.{member_list}
use Rattle.lanes.proofs.LaneSets.{set_full}
use Rattle.lanes.proofs.Lowest.{dropped, dropped_not, dropped_other, dropped_was}

-- what is listed
in_range : (a n j : ℕ) → a ≤ j → j < a + n → Memᴰ j (range_with_len a n)
in_range a zero j l h = absurd (omega arith)
in_range a (suc n) j l h = ⊎_elim (λ e. Memᴰ.head e) (λ ne. Memᴰ.tail (in_range (a + 1) n j (omega arith) (omega arith))) (cases_eq j a)

pub listed : (set j : ℕ) → set < 2 ^ 32 → Mem j set → Memᴰ j (member_list set)
unfolding member_list
listed set j small m = let b = mem_below 32 set j small m in kept_mem (λ i. member i set) j (range_with_len 0 32) (in_range 0 32 j (omega arith) (omega arith)) (eq-eqb (set / 2 ^ j % 2) 1 m)

pub listed_only : (set j : ℕ) → Memᴰ j (member_list set) → Mem j set
unfolding member_list
listed_only set j m = eqb-true (set / 2 ^ j % 2) 1 (mem_kept (λ i. member i set) j (range_with_len 0 32) m).1

-- what the iterator gives
pub road : (s : Members) (set : ℕ) → s.rest ≡ set → YieldsList (YieldsFirst (λ (t : Members). member_list t.rest)) (λ (j : ℕ). j) s (member_list set)
road s set e = YieldsList-from_first (λ (j : ℕ). j) (λ (t : Members). member_list t.rest) (member_list set) (ap member_list e)

at_place : (xs : List ℕ) (n d : ℕ) → n < length xs → Memᴰ (get_or xs n d) xs
at_place [] n d h = absurd (omega arith)
at_place (x ∷ xs) zero d h = Memᴰ.head refl
at_place (x ∷ xs) (suc n) d h = Memᴰ.tail (at_place xs n d (omega arith))

-- each item is a member
pub came : (s : Members) (set : ℕ) (xs : List ℕ) (t u : Members) (j : ℕ) → s.rest ≡ set → Yields (YieldsFirst (λ (v : Members). member_list v.rest)) s xs t → YieldsFirst (λ (v : Members). member_list v.rest) t (Some j) u → Mem j set
came s set xs t u j e y g =
    let w = YieldsList-turn (road s set e) xs t y (Some j) u j refl g in
    listed_only set j (subst (λ (i : ℕ). Memᴰ i (member_list set)) (sym w.1) (at_place (member_list set) (length xs) j w.0))

-- the first of the list, and the rest

same_filter : (p q : ℕ → Bool) (a n : ℕ) → ((j : ℕ) → a ≤ j → p j ≡ q j) → filter p (range_with_len a n) ≡ filter q (range_with_len a n)
same_filter p q a zero f = refl
same_filter p q a (suc n) f =
    let rest = same_filter p q (a + 1) n (λ j l. f j (omega arith)) in
    ap (λ (b : Bool). cond b (a ∷ filter p (range_with_len (a + 1) n)) (filter p (range_with_len (a + 1) n))) (f a (omega arith))
    ∙ ap (λ (l : List ℕ). cond (q a) (a ∷ l) l) rest

-- q has what p has but for t, the first of p
first_out : (p q : ℕ → Bool) (t a n : ℕ) → a ≤ t → t < a + n → p t ≡ true → q t ≡ false → ((j : ℕ) → j < t → (p j ≡ false) × (q j ≡ false)) → ((j : ℕ) → t < j → p j ≡ q j)
    → filter p (range_with_len a n) ≡ t ∷ filter q (range_with_len a n)
first_out p q t a zero l h has lacks below above = absurd (omega arith)
first_out p q t a (suc n) l h has lacks below above =
    let ps = filter p (range_with_len (a + 1) n) in
    let qs = filter q (range_with_len (a + 1) n) in
    ⊎_elim
    (λ b.
    ap (λ (v : Bool). cond v (a ∷ ps) ps) (below a b).0
    ∙ first_out p q t (a + 1) n (omega arith) (omega arith) has lacks below above
    ∙ ap (λ (v : Bool). t ∷ cond v (a ∷ qs) qs) (sym (below a b).1))
    (λ b.
    let e : a ≡ t = omega arith in
    ap (λ (v : Bool). cond v (a ∷ ps) ps) (ap p e ∙ has)
    ∙ ap (λ (l : List ℕ). a ∷ l) (same_filter p q (a + 1) n (λ j k. above j (omega arith)))
    ∙ ap (λ (i : ℕ). i ∷ qs) e
    ∙ ap (λ (v : Bool). t ∷ cond v (a ∷ qs) qs) (sym (ap q e ∙ lacks)))
    (cases_lt a t)

pub first_listed : (set : ℕ) → set < 2 ^ 32 → (set ≡ 0 → ⊥) → member_list set ≡ count_trailing_zeros 32 set ∷ member_list (dropped set)
unfolding member_list
first_listed set small some =
    let t = count_trailing_zeros 32 set in
    let full : 0 < set = ⊎_elim (λ l. l) (λ l. absurd (some (omega arith))) (cases_lt 0 set) in
    let first = bit_at-trailing_zeros w32 set full small in
    let inside = first.0 in
    first_out (λ i. member i set) (λ i. member i (dropped set)) t 0 32 (omega arith) (omega arith)
    (test_true set t first.1)
    (test_false (dropped set) t (dropped_not 32 set small full))
    (λ j l. let out : Mem j set → ⊥ = λ k. let zero_there = first.2 j l in omega arith in (test_false set j out, test_false (dropped set) j (λ k. out (dropped_was set j k))))
    (λ j l. same_test set (dropped set) j (λ k. dropped_other 32 set j small full k (λ e. absurd (omega arith))) (dropped_was set j))
  where
    test_true : (s j : ℕ) → Mem j s → member j s ≡ true
    test_true s j k = eq-eqb (s / 2 ^ j % 2) 1 k

    test_false : (s j : ℕ) → (Mem j s → ⊥) → member j s ≡ false
    test_false s j f = ⊎_elim (λ e. absurd (f (eqb-true (s / 2 ^ j % 2) 1 e))) (λ e. e) (cases_Bool (member j s))

    same_test : (s u j : ℕ) → (Mem j s → Mem j u) → (Mem j u → Mem j s) → member j s ≡ member j u
    same_test s u j f g = ⊎_elim
        (λ e. e ∙ sym (test_true u j (f (eqb-true (s / 2 ^ j % 2) 1 e))))
        (λ e. e ∙ sym (test_false u j (λ k. true≢false (sym (test_true s j (g k)) ∙ e))))
        (cases_Bool (member j s))

pub none_listed : member_list 0 ≡ []
unfolding member_list
none_listed = refl

-- What a fold over the members leaves, where `said j` are the lanes of member j

pushed_cases : (j x : ℕ) (ys : List ℕ) → Memᴰ j (ys ++ x ∷ []) → Memᴰ j ys ⊎ (j ≡ x)
pushed_cases j x [] m = ⊎_elim (λ e. inr e) (λ k. absurd (Memᴰ.not-nil k)) (Memᴰ.cases_cons m)
pushed_cases j x (y ∷ ys) m = ⊎_elim (λ e. inl (Memᴰ.head e)) (λ k. ⊎_elim (λ i. inl (Memᴰ.tail i)) (λ e. inr e) (pushed_cases j x ys k)) (Memᴰ.cases_cons m)

pushed_was : (j x : ℕ) (ys : List ℕ) → Memᴰ j ys → Memᴰ j (ys ++ x ∷ [])
pushed_was j x [] m = absurd (Memᴰ.not-nil m)
pushed_was j x (y ∷ ys) m = ⊎_elim (λ e. Memᴰ.head e) (λ k. Memᴰ.tail (pushed_was j x ys k)) (Memᴰ.cases_cons m)

pushed : (x : ℕ) (ys : List ℕ) → Memᴰ x (ys ++ x ∷ [])
pushed x [] = Memᴰ.head refl
pushed x (y ∷ ys) = Memᴰ.tail (pushed x ys)

module _ (said : ℕ → ℕ → Type 0) where
  -- the lanes of some of those that came
  abbrev pub SomeOf : List ℕ → ℕ → Type 0
  SomeOf ys lanes = SetOf lanes (λ l. (j : ℕ) × Memᴰ j ys × said j l)

  pub some_of_none : SomeOf [] 0
  some_of_none = record { all = λ l w. absurd (Memᴰ.not-nil w.1); only = λ l m. absurd (not_in_zero l m) }

  pub some_of_more : (ys : List ℕ) (lanes x w : ℕ) → SomeOf ys lanes → SetOf w (said x) → SomeOf (ys ++ x ∷ []) (bit_or lanes w)
  some_of_more ys lanes x w s t = record {
    all = λ l v. ⊎_elim
        (λ m. mem_or_left l lanes w (s.all l (v.0, m, v.2)))
        (λ e. mem_or_right l lanes w (t.all l (subst (λ (i : ℕ). said i l) e v.2)))
        (pushed_cases v.0 x ys v.1);
    only = λ l h. ⊎_elim
        (λ m. let v = s.only l m in (v.0, pushed_was v.0 x ys v.1, v.2))
        (λ m. (x, pushed x ys, t.only l m))
        (mem_or_cases l lanes w h);
  }

  -- the lanes of all of those that came
  abbrev pub AllOf : List ℕ → ℕ → Type 0
  AllOf ys lanes = SetOf lanes (λ l. (l < 64) × ((j : ℕ) → Memᴰ j ys → said j l))

  pub all_of_none : AllOf [] (2 ^ 64 - 1)
  all_of_none = record { all = λ l w. set_full.all l w.0; only = λ l m. (set_full.only l m, λ j k. absurd (Memᴰ.not-nil k)) }

  pub all_of_more : (ys : List ℕ) (lanes x w : ℕ) → AllOf ys lanes → SetOf w (said x) → AllOf (ys ++ x ∷ []) (bit_and lanes w)
  all_of_more ys lanes x w s t = record {
    all = λ l v. mem_and l lanes w (s.all l (v.0, λ j m. v.1 j (pushed_was j x ys m))) (t.all l (v.1 x (pushed x ys)));
    only = λ l h.
        let v = s.only l (mem_and_left l lanes w h) in
        (v.0, λ j m. ⊎_elim (λ k. v.1 j k) (λ e. subst (λ (i : ℕ). said i l) (sym e) (t.only l (mem_and_right l lanes w h))) (pushed_cases j x ys m));
  }

  -- those that came are the members of a set
  pub some_listed : (set lanes : ℕ) → set < 2 ^ 32 → SomeOf (member_list set) lanes → SetOf lanes (λ l. (j : ℕ) × Mem j set × said j l)
  some_listed set lanes small s = set_same (λ l w. (w.0, listed_only set w.0 w.1, w.2)) (λ l w. (w.0, listed set w.0 small w.1, w.2)) s

  pub all_listed : (set lanes : ℕ) → set < 2 ^ 32 → AllOf (member_list set) lanes → SetOf lanes (λ l. (l < 64) × ((j : ℕ) → Mem j set → said j l))
  all_listed set lanes small s = set_same (λ l w. (w.0, λ j m. w.1 j (listed set j small m))) (λ l w. (w.0, λ j m. w.1 j (listed_only set j m))) s

-- A fold over the members, by a closure that it leaves as it was

module _ {F : Type 0} (g : Mut F (ℕ × (ℕ × Unit {0})) ℕ) (f : F) (s : Members) (set : ℕ) (e : s.rest ≡ set) where
  pub fold_callable : (a : ℕ) → ((b x r : ℕ) (h : F) → Called g f (b, (x, tt)) r h → h ≡ f) → ((b x : ℕ) → Mem x set → Takes g f (b, (x, tt)))
      → CallableInFold (YieldsFirst (λ (t : Members). member_list t.rest)) g s f a
  fold_callable a stays takes = serves_by {P = F × ℕ} (FoldTurn g) (λ _ q. q.0 ≡ f) (λ xs q x v j k. stays q.1 x v.1 v.0 (subst (λ (h : F). Called g h (q.1, (x, tt)) v.1 v.0) j k)) _ _ s (f, a) refl
      (λ xs t q x u y n j. subst (λ (h : F). Takes g h (q.1, (x, tt))) (sym j) (takes q.1 x (came s set xs t u x e y n)))

  pub fold_gives : (J : List ℕ → ℕ → Type 0) (a r : ℕ) → J [] a → ((ys : List ℕ) (b x v : ℕ) (h : F) → J ys b → Called g f (b, (x, tt)) v h → J (ys ++ (x ∷ [])) v × (h ≡ f))
      → FoldsItems (YieldsFirst (λ (t : Members). member_list t.rest)) g s f a r → J (member_list set) r
  fold_gives J a r j step ran = fold_over (YieldsFirst (λ (t : Members). member_list t.rest)) (λ (x : ℕ). x) g J f step s (member_list set) a r (road s set e).runs j ran
