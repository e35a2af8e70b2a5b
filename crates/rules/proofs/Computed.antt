-- The notions of specs/ computed: a test for each, with one lemma that says what it decides, the step, and the list of outcomes.
use Rattle.std.proofs.Common.{◌≡◌, ℕ, zero, suc, ◌+◌, ◌^◌, ◌<◌, ◌≤◌, Bool, true, false, cond, not, ◌&&◌, ◌||◌, eqb, ◌⊎◌, List, [], ◌∷◌, length, get_or, Decides, filter, sym, refl, ap, ◌∙◌, subst, inl, inr, ⊎_elim, arith}
use mathlib.Core.List.Memᴰ
use mathlib.Core.List.{Memᴰ}
use lib.Bits.{bit_and, bit_or}
use Rattle.std.specs.List.{range_with_len, AllByRecursion}
use Rattle.std.proofs.lemmas.Bool.{cases_Bool, not_from_false, cond_both, eqb-true, eqb-false, or_cases, or_left, or_right, cases_lt}
use Rattle.std.proofs.lemmas.Bool.Decides.{Decides-eqb, Decides-and, Decides-not, Decides-like}
use Rattle.std.proofs.lemmas.List.Filters.{length-filter_both}
use Rattle.rules.specs.declared.rule.Rule.{Rule}
use Rattle.rules.specs.declared.rule.Sign.{Sign}
use Rattle.rules.specs.declared.rule.Sign.TheVariants.{Yes, No}
use Rattle.rules.specs.Semantics.{Mem, LiteralSet, Holds, ◌⊆◌, ◌∈◌, body, opposite, Clash, Overruling, Rejects, Rejected, Affirms, Default, Step, settled, Ascending, Lists}
use Rattle.rules.specs.Parts.{no_rule, plus}
use Rattle.rules.proofs.Bitwise.{same_members, mem_and, mem_and_left, mem_and_right, mem_or_left, mem_or_right, mem_or_cases, mem_one, mem_one_is, not_in_zero}
use Rattle.rules.proofs.Literals.{yes≢no, ⊆_refl, ⊆_trans, plus_more, plus_has, plus_least}
use Rattle.rules.proofs.Theory.{step_unique}

-- tests

abbrev pub within : ℕ → ℕ → Bool
within x y = eqb (bit_and x y) x

pub decides_within : (x y : ℕ) → Decides (within x y) ((a : ℕ) → Mem a x → Mem a y)
decides_within x y = Decides-like (within x y)
    (λ e a m. mem_and_right a x y (subst (Mem a) (sym e) m))
    (λ f. same_members (bit_and x y) x (λ a m. mem_and_left a x y m) (λ a m. mem_and a x y m (f a m)))
    (Decides-eqb (bit_and x y) x)

abbrev pub includes : LiteralSet → LiteralSet → Bool
includes X Y = within X.0 Y.0 && within X.1 Y.1

pub decides_includes : (X Y : LiteralSet) → Decides (includes X Y) (X ⊆ Y)
decides_includes X Y = Decides-like (includes X Y)
    (λ p. record { each = elim [ Yes ↦ p.0 | No ↦ p.1 ] })
    (λ f. (f.each Yes, f.each No))
    (Decides-and (within X.0 Y.0) (within X.1 Y.1) (decides_within X.0 Y.0) (decides_within X.1 Y.1))

abbrev pub same_sign : Sign → Sign → Bool
same_sign Yes Yes = true
same_sign Yes No = false
same_sign No Yes = false
same_sign No No = true

pub decides_sign : (s t : Sign) → Decides (same_sign s t) (s ≡ t)
decides_sign Yes Yes = (λ _. refl, λ _. refl)
decides_sign Yes No = (λ e. absurd (mathlib.Core.Bool.false≢true e), λ e. absurd (yes≢no e))
decides_sign No Yes = (λ e. absurd (mathlib.Core.Bool.false≢true e), λ e. absurd (yes≢no (sym e)))
decides_sign No No = (λ _. refl, λ _. refl)

abbrev pub any : {A : Type 0} → (A → Bool) → List A → Bool
any p [] = false
any p (x ∷ xs) = p x || any p xs

pub decides_any : {A : Type 0} (p : A → Bool) (Q : A → Type 0) → ((x : A) → Decides (p x) (Q x)) → (xs : List A) → Decides (any p xs) ((x : A) × Memᴰ x xs × Q x)
decides_any p Q d [] = (λ e. absurd (mathlib.Core.Bool.false≢true e), λ w. absurd (Memᴰ.not-nil w.1))
decides_any {A} p Q d (x ∷ xs) =
    let rest : Decides (any p xs) ((x : A) × Memᴰ x xs × Q x) = decides_any p Q d xs in (
      λ e. ⊎_elim (λ t. (x, Memᴰ.head refl, (d x).0 t)) (λ t. let w = rest.0 t in (w.0, Memᴰ.tail w.1, w.2)) (or_cases (p x) (any p xs) e),
      λ w. ⊎_elim (λ e. or_left (p x) (any p xs) ((d x).1 (subst Q e w.2))) (λ m. or_right (p x) (any p xs) (rest.1 (w.0, m, w.2))) (Memᴰ.cases_cons w.1),
    )

-- what a filter keeps

pub kept_mem : {A : Type 0} (p : A → Bool) (x : A) (xs : List A) → Memᴰ x xs → p x ≡ true → Memᴰ x (filter p xs)
kept_mem p x [] m t = absurd (Memᴰ.not-nil m)
kept_mem {A} p x (y ∷ ys) m t =
    let further = kept_mem p x ys in
    cond_both (p y) (y ∷ filter p ys) (filter p ys) (λ (l : List A). Memᴰ x l)
    (λ _. ⊎_elim (λ e. Memᴰ.head e) (λ k. Memᴰ.tail (further k t)) (Memᴰ.cases_cons m))
    (λ f. ⊎_elim (λ e. absurd (mathlib.Core.Bool.true≢false (sym t ∙ ap p e ∙ f))) (λ k. further k t) (Memᴰ.cases_cons m))

pub mem_kept : {A : Type 0} (p : A → Bool) (x : A) (xs : List A) → Memᴰ x (filter p xs) → (Memᴰ x xs) × (p x ≡ true)
mem_kept p x [] m = absurd (Memᴰ.not-nil m)
mem_kept {A} p x (y ∷ ys) m =
    let further = mem_kept p x ys in
    cond_both (p y) (y ∷ filter p ys) (filter p ys) (λ (l : List A). Memᴰ x l → (Memᴰ x (y ∷ ys)) × (p x ≡ true))
    (λ t k. ⊎_elim (λ e. (Memᴰ.head e, ap p e ∙ t)) (λ i. let w = further i in (Memᴰ.tail w.0, w.1)) (Memᴰ.cases_cons k))
    (λ _ k. let w = further k in (Memᴰ.tail w.0, w.1))
    m

pub mem_length : {A : Type 0} (x : A) (xs : List A) → Memᴰ x xs → 0 < length xs
mem_length x [] m = absurd (Memᴰ.not-nil m)
mem_length x (y ∷ ys) m = omega arith

-- rejection, defaults

abbrev pub clash : Rule → Rule → Bool
clash s r = eqb s.head r.head && same_sign s.sign (opposite r.sign)

pub decides_clash : (s r : Rule) → Decides (clash s r) (Clash s r)
decides_clash s r = Decides-and (eqb s.head r.head) (same_sign s.sign (opposite r.sign)) (Decides-eqb s.head r.head) (decides_sign s.sign (opposite r.sign))

abbrev pub rejects : Overruling → LiteralSet → Rule → Rule → Bool
rejects over X s r = over s.sheet r.sheet && (clash s r && includes (body s) X)

pub decides_rejects : (over : Overruling) (X : LiteralSet) (s r : Rule) → Decides (rejects over X s r) (Rejects over X s r)
decides_rejects over X s r = Decides-like (rejects over X s r)
    (λ w. record { overrules = w.0; clash = w.1.0; body_true = w.1.1 })
    (λ w. (w.overrules, (w.clash, w.body_true)))
    (Decides-and (over s.sheet r.sheet) (clash s r && includes (body s) X) (λ e. e, λ e. e)
    (Decides-and (clash s r) (includes (body s) X) (decides_clash s r) (decides_includes (body s) X)))

abbrev pub rejected : List Rule → Overruling → LiteralSet → Rule → Bool
rejected P over X r = any (λ s. rejects over X s r) P

pub decides_rejected : (P : List Rule) (over : Overruling) (X : LiteralSet) (r : Rule) → Decides (rejected P over X r) (Rejected P over X r)
decides_rejected P over X r = Decides-like (rejected P over X r)
    (λ w. record { rejecter = w.0; of_the_list = w.1; rejects = w.2 })
    (λ j. (j.rejecter, j.of_the_list, j.rejects))
    (decides_any (λ s. rejects over X s r) (λ s. Rejects over X s r) (λ s. decides_rejects over X s r) P)

abbrev pub affirms : LiteralSet → ℕ → Rule → Bool
affirms X a r = same_sign r.sign Yes && (eqb r.head a && includes (body r) X)

pub decides_affirms : (X : LiteralSet) (a : ℕ) (r : Rule) → Decides (affirms X a r) (Affirms X a r)
decides_affirms X a r = Decides-like (affirms X a r)
    (λ w. record { sign_is = w.0; head_is = w.1.0; body_true = w.1.1 })
    (λ w. (w.sign_is, (w.head_is, w.body_true)))
    (Decides-and (same_sign r.sign Yes) (eqb r.head a && includes (body r) X) (decides_sign r.sign Yes)
    (Decides-and (eqb r.head a) (includes (body r) X) (Decides-eqb r.head a) (decides_includes (body r) X)))

abbrev pub default : List Rule → LiteralSet → ℕ → Bool
default P X a = not (any (affirms X a) P)

pub decides_default : (P : List Rule) (n : ℕ) (X : LiteralSet) (a : ℕ) → a < n → Decides (default P X a) (Default P n X a)
decides_default P n X a l = Decides-like (default P X a)
    (λ f. record { a_matter = l; unaffirmed = λ r m w. f (r, m, w) })
    (λ d w. d.unaffirmed w.0 w.1 w.2)
    (Decides-not (any (affirms X a) P) (decides_any (affirms X a) (Affirms X a) (decides_affirms X a) P))

-- the set of the matters below k that pass a test
abbrev pub gathered : (ℕ → Bool) → ℕ → ℕ
gathered p zero = 0
gathered p (suc k) = cond (p k) (bit_or (gathered p k) (2 ^ k)) (gathered p k)

pub gathered_has : (p : ℕ → Bool) (k a : ℕ) → a < k → p a ≡ true → Mem a (gathered p k)
gathered_has p zero a l t = absurd (omega arith)
gathered_has p (suc k) a l t =
    let further = gathered_has p k a in
    cond_both (p k) (bit_or (gathered p k) (2 ^ k)) (gathered p k) (λ (m : ℕ). Mem a m)
    (λ _. ⊎_elim (λ h. mem_or_left a (gathered p k) (2 ^ k) (further h t))
    (λ h. let e : a ≡ k = omega arith in mem_or_right a (gathered p k) (2 ^ k) (subst (λ (b : ℕ). Mem a (2 ^ b)) e (mem_one a))) (cases_lt a k))
    (λ f. ⊎_elim (λ h. further h t) (λ h. let e : a ≡ k = omega arith in absurd (mathlib.Core.Bool.true≢false (sym t ∙ ap p e ∙ f))) (cases_lt a k))

pub gathered_only : (p : ℕ → Bool) (k a : ℕ) → Mem a (gathered p k) → (a < k) × (p a ≡ true)
gathered_only p zero a h = absurd (not_in_zero a h)
gathered_only p (suc k) a h =
    let further = gathered_only p k a in
    cond_both (p k) (bit_or (gathered p k) (2 ^ k)) (gathered p k) (λ (m : ℕ). Mem a m → (a < suc k) × (p a ≡ true))
    (λ t i. ⊎_elim (λ g. let w = further g in (omega arith, w.1)) (λ g. let e = mem_one_is k a g in (omega arith, ap p e ∙ t)) (mem_or_cases a (gathered p k) (2 ^ k) i))
    (λ _ i. let w = further i in (omega arith, w.1))
    h

-- closure

abbrev pub with_heads : List Rule → LiteralSet → LiteralSet
with_heads [] Y = Y
with_heads (r ∷ rs) Y = plus (with_heads rs Y) r.sign r.head

pub with_heads_more : (rs : List Rule) (Y : LiteralSet) → Y ⊆ with_heads rs Y
with_heads_more [] Y = ⊆_refl Y
with_heads_more (r ∷ rs) Y = ⊆_trans (with_heads_more rs Y) (plus_more (with_heads rs Y) r.sign r.head)

pub with_heads_has : (rs : List Rule) (Y : LiteralSet) (r : Rule) → r ∈ rs → Holds (with_heads rs Y) r.sign r.head
with_heads_has [] Y r m = absurd (Memᴰ.not-nil m)
with_heads_has (s ∷ rs) Y r m =
    let further = with_heads_has rs Y r in
    ⊎_elim (λ e. subst (λ (q : Rule). Holds (plus (with_heads rs Y) s.sign s.head) q.sign q.head) (sym e) (plus_has (with_heads rs Y) s.sign s.head))
    (λ k. (plus_more (with_heads rs Y) s.sign s.head).each r.sign r.head (further k)) (Memᴰ.cases_cons m)

pub with_heads_least : (rs : List Rule) (Y Z : LiteralSet) → Y ⊆ Z → ((r : Rule) → r ∈ rs → Holds Z r.sign r.head) → with_heads rs Y ⊆ Z
with_heads_least [] Y Z f h = f
with_heads_least (r ∷ rs) Y Z f h = plus_least (with_heads rs Y) Z r.sign r.head (with_heads_least rs Y Z f (λ s m. h s (Memᴰ.tail m))) (h r (Memᴰ.head refl))

abbrev pub ready : LiteralSet → Rule → Bool
ready Y r = includes (body r) Y

abbrev pub waits : LiteralSet → Rule → Bool
waits Y r = not (includes (body r) Y)

-- round by round: the heads of the rules whose body is true are added, and the others wait
abbrev pub close : ℕ → List Rule → LiteralSet → LiteralSet
close zero rs Y = Y
close (suc k) rs Y = cond {A = Unit {0} → LiteralSet} (eqb (length (filter (ready Y) rs)) 0) (λ _. Y) (λ _. close k (filter (waits Y) rs) (with_heads (filter (ready Y) rs) Y)) tt

-- it is by cases
close_by : (k : ℕ) (rs : List Rule) (Y : LiteralSet) (Q : LiteralSet → Type 0)
    → (length (filter (ready Y) rs) ≡ 0 → Q Y)
    → ((length (filter (ready Y) rs) ≡ 0 → ⊥) → Q (close k (filter (waits Y) rs) (with_heads (filter (ready Y) rs) Y)))
    → Q (close (suc k) rs Y)
close_by k rs Y Q f g = cond_both {A = Unit {0} → LiteralSet} (eqb (length (filter (ready Y) rs)) 0) (λ _. Y) (λ _. close k (filter (waits Y) rs) (with_heads (filter (ready Y) rs) Y))
    (λ (h : Unit {0} → LiteralSet). Q (h tt)) (λ e. f (eqb-true (length (filter (ready Y) rs)) 0 e)) (λ e. g (eqb-false (length (filter (ready Y) rs)) 0 e))

pub close_more : (k : ℕ) (rs : List Rule) (Y : LiteralSet) → Y ⊆ close k rs Y
close_more zero rs Y = ⊆_refl Y
close_more (suc k) rs Y =
    let further = close_more k (filter (waits Y) rs) (with_heads (filter (ready Y) rs) Y) in
    close_by k rs Y (λ Z. Y ⊆ Z) (λ _. ⊆_refl Y) (λ _. ⊆_trans (with_heads_more (filter (ready Y) rs) Y) further)

pub close_least : (k : ℕ) (rs : List Rule) (Y Z : LiteralSet) → Y ⊆ Z → ((r : Rule) → r ∈ rs → body r ⊆ Z → Holds Z r.sign r.head) → close k rs Y ⊆ Z
close_least zero rs Y Z f h = f
close_least (suc k) rs Y Z f h =
    let further = close_least k (filter (waits Y) rs) (with_heads (filter (ready Y) rs) Y) Z in
    close_by k rs Y (λ W. W ⊆ Z) (λ _. f)
    (λ _. further
    (with_heads_least (filter (ready Y) rs) Y Z f (λ r m. let w = mem_kept (ready Y) r rs m in h r w.0 (⊆_trans ((decides_includes (body r) Y).0 w.1) f)))
    (λ r m b. h r (mem_kept (waits Y) r rs m).0 b))

pub close_closed : (k : ℕ) (rs : List Rule) (Y : LiteralSet) → length rs ≤ k → (r : Rule) → r ∈ rs → body r ⊆ close k rs Y → Holds (close k rs Y) r.sign r.head
close_closed zero rs Y l r m = λ b. let p = mem_length r rs m in absurd (omega arith)
close_closed (suc k) rs Y l r m =
    let further = close_closed k (filter (waits Y) rs) (with_heads (filter (ready Y) rs) Y) in
    let parts = length-filter_both (ready Y) (waits Y) (λ _. refl) rs in
    close_by k rs Y (λ W. body r ⊆ W → Holds W r.sign r.head)
    (λ e b. let p = mem_length r (filter (ready Y) rs) (kept_mem (ready Y) r rs m ((decides_includes (body r) Y).1 b)) in absurd (omega arith))
    (λ ne b. ⊎_elim
    (λ t. (close_more k (filter (waits Y) rs) (with_heads (filter (ready Y) rs) Y)).each r.sign r.head (with_heads_has (filter (ready Y) rs) Y r (kept_mem (ready Y) r rs m t)))
    (λ t. further (omega arith) r (kept_mem (waits Y) r rs m (not_from_false (ready Y r) t)) b)
    (cases_Bool (ready Y r)))

-- the step

abbrev pub kept : List Rule → Overruling → LiteralSet → List Rule
kept P over X = filter (λ r. not (rejected P over X r)) P

abbrev pub defaults : List Rule → ℕ → LiteralSet → LiteralSet
defaults P n X = (0, gathered (default P X) n)

abbrev pub step : List Rule → Overruling → ℕ → LiteralSet → LiteralSet
step P over n X = close (length (kept P over X)) (kept P over X) (defaults P n X)

pub step_is : (P : List Rule) (over : Overruling) (n : ℕ) (X : LiteralSet) → Step P over n X (step P over n X)
step_is P over n X = record {
  closed = record {
    heads = λ r v b. close_closed (length (kept P over X)) (kept P over X) (defaults P n X) (omega arith) r
        (kept_mem (λ q. not (rejected P over X q)) r P v.of_the_list ((Decides-not (rejected P over X r) (decides_rejected P over X r)).1 v.unrejected)) b;
    defaults = λ a d. (close_more (length (kept P over X)) (kept P over X) (defaults P n X)).each No a
        (gathered_has (default P X) n a d.a_matter ((decides_default P n X a d.a_matter).1 d));
  };
  least = λ Z c. close_least (length (kept P over X)) (kept P over X) (defaults P n X) Z
      (record { each = elim [ Yes ↦ λ a h. absurd (not_in_zero a h) | No ↦ λ a h. let w = gathered_only (default P X) n a h in c.defaults a ((decides_default P n X a w.0).0 w.1) ] })
      (λ r m b. let w = mem_kept (λ q. not (rejected P over X q)) r P m in c.heads r (record { of_the_list = w.0; unrejected = (Decides-not (rejected P over X r) (decides_rejected P over X r)).0 w.1 }) b);
}

abbrev pub same_set : LiteralSet → LiteralSet → Bool
same_set X Y = eqb X.0 Y.0 && eqb X.1 Y.1

pub decides_same : (X Y : LiteralSet) → Decides (same_set X Y) (X ≡ Y)
decides_same X Y = Decides-like (same_set X Y)
    (λ p. λ i. (p.0 i, p.1 i)) (λ e. (ap (λ (Z : LiteralSet). Z.0) e, ap (λ (Z : LiteralSet). Z.1) e))
    (Decides-and (eqb X.0 Y.0) (eqb X.1 Y.1) (Decides-eqb X.0 Y.0) (Decides-eqb X.1 Y.1))

abbrev pub fixed : List Rule → Overruling → ℕ → ℕ → Bool
fixed P over n M = same_set (step P over n (settled n M)) (settled n M)

pub decides_fixed : (P : List Rule) (over : Overruling) (n M : ℕ) → Decides (fixed P over n M) (Step P over n (settled n M) (settled n M))
decides_fixed P over n M = Decides-like (fixed P over n M)
    (λ e. subst (λ (Y : LiteralSet). Step P over n (settled n M) Y) e (step_is P over n (settled n M)))
    (λ s. step_unique (step_is P over n (settled n M)) s)
    (decides_same (step P over n (settled n M)) (settled n M))

-- the list of outcomes

abbrev pub outcomes : List Rule → Overruling → ℕ → List ℕ
outcomes P over n = filter (fixed P over n) (range_with_len 0 (2 ^ n))

pub counting_has : (a k m : ℕ) → a ≤ m → m < a + k → Memᴰ m (range_with_len a k)
counting_has a zero m l h = absurd (omega arith)
counting_has a (suc k) m l h =
    let further = counting_has (a + 1) k m in
    ⊎_elim (λ e. Memᴰ.head e) (λ g. Memᴰ.tail (further (omega arith) (omega arith))) (first (cases_lt a m))
  where
    first : (a < m) ⊎ (m ≤ a) → (m ≡ a) ⊎ (a < m)
    first (inl g) = inr g
    first (inr g) = inl (omega arith)

pub counting_only : (a k m : ℕ) → Memᴰ m (range_with_len a k) → (a ≤ m) × (m < a + k)
counting_only a zero m i = absurd (Memᴰ.not-nil i)
counting_only a (suc k) m i =
    let further = counting_only (a + 1) k m in
    ⊎_elim (λ e. (omega arith, omega arith)) (λ j. let w = further j in (omega arith, omega arith)) (Memᴰ.cases_cons i)

pub all_members : {A : Type 0} (Q : A → Type 0) (xs : List A) → ((x : A) → Memᴰ x xs → Q x) → AllByRecursion Q xs
all_members Q [] f = tt
all_members Q (x ∷ xs) f = (f x (Memᴰ.head refl), all_members Q xs (λ y m. f y (Memᴰ.tail m)))

pub all_member : {A : Type 0} (Q : A → Type 0) (xs : List A) (x : A) → AllByRecursion Q xs → Memᴰ x xs → Q x
all_member Q [] x h m = absurd (Memᴰ.not-nil m)
all_member Q (y ∷ ys) x h m = let further = all_member Q ys x h.1 in ⊎_elim (λ e. subst Q (sym e) h.0) further (Memᴰ.cases_cons m)

pub kept_ascending : (p : ℕ → Bool) (a k : ℕ) → Ascending (filter p (range_with_len a k))
kept_ascending p a zero = tt
kept_ascending p a (suc k) =
    let further = kept_ascending p (a + 1) k in
    cond_both (p a) (a ∷ filter p (range_with_len (a + 1) k)) (filter p (range_with_len (a + 1) k)) Ascending
    (λ _. (all_members (λ y. a < y) (filter p (range_with_len (a + 1) k)) (λ y m. let w = counting_only (a + 1) k y (mem_kept p y (range_with_len (a + 1) k) m).0 in omega arith), further))
    (λ _. further)

pub outcomes_list : (P : List Rule) (over : Overruling) (n : ℕ) → Lists P over n (outcomes P over n)
outcomes_list P over n = record {
  ascending = kept_ascending (fixed P over n) 0 (2 ^ n);
  only = λ M m. let w = mem_kept (fixed P over n) M (range_with_len 0 (2 ^ n)) m in
      (let l = counting_only 0 (2 ^ n) M w.0 in omega arith, (decides_fixed P over n M).0 w.1);
  all = λ M o. kept_mem (fixed P over n) M (range_with_len 0 (2 ^ n)) (counting_has 0 (2 ^ n) M (omega arith) (let l = o.0 in omega arith)) ((decides_fixed P over n M).1 o.1);
}

-- ascending lists with the same members are equal
pub ascending_same : (xs ys : List ℕ) → Ascending xs → Ascending ys → ((m : ℕ) → Memᴰ m xs → Memᴰ m ys) → ((m : ℕ) → Memᴰ m ys → Memᴰ m xs) → xs ≡ ys
ascending_same [] [] a b f g = refl
ascending_same [] (y ∷ ys) a b f g = absurd (Memᴰ.not-nil (g y (Memᴰ.head refl)))
ascending_same (x ∷ xs) [] a b f g = absurd (Memᴰ.not-nil (f x (Memᴰ.head refl)))
ascending_same (x ∷ xs) (y ∷ ys) a b f g =
    let lows = λ (m : ℕ) (i : Memᴰ m xs). all_member (λ z. x < z) xs m a.0 i in
    let highs = λ (m : ℕ) (i : Memᴰ m ys). all_member (λ z. y < z) ys m b.0 i in
    let e : x ≡ y = ⊎_elim (λ p. p) (λ i. ⊎_elim (λ q. sym q) (λ j. let u = highs x i in let v = lows y j in absurd (omega arith)) (Memᴰ.cases_cons (g y (Memᴰ.head refl)))) (Memᴰ.cases_cons (f x (Memᴰ.head refl))) in
    let rest = ascending_same xs ys a.1 b.1
    (λ m i. ⊎_elim (λ p. let u = lows m i in absurd (omega arith)) (λ j. j) (Memᴰ.cases_cons (f m (Memᴰ.tail i))))
    (λ m i. ⊎_elim (λ p. let u = highs m i in absurd (omega arith)) (λ j. j) (Memᴰ.cases_cons (g m (Memᴰ.tail i)))) in
    λ i. e i ∷ rest i

pub lists_unique : {P : List Rule} {over : Overruling} {n : ℕ} {Ms Ns : List ℕ} → Lists P over n Ms → Lists P over n Ns → Ms ≡ Ns
lists_unique {Ms} {Ns} l k = ascending_same Ms Ns l.ascending k.ascending (λ M m. k.all M (l.only M m)) (λ M m. l.all M (k.only M m))

-- a rule of a list stands at a place
pub placed : (P : List Rule) (i : ℕ) (d : Rule) → i < length P → get_or P i d ∈ P
placed [] i d l = absurd (omega arith)
placed (r ∷ rs) zero d l = Memᴰ.head refl
placed (r ∷ rs) (suc i) d l = Memᴰ.tail (placed rs i d (omega arith))

pub place_of : (P : List Rule) (r d : Rule) → r ∈ P → (i : ℕ) × (i < length P) × (get_or P i d ≡ r)
place_of [] r d m = absurd (Memᴰ.not-nil m)
place_of (s ∷ rs) r d m =
    let further = place_of rs r d in
    ⊎_elim (λ e. (0, omega arith, sym e)) (λ k. let w = further k in (suc w.0, (let l = w.1 in omega arith), w.2)) (Memᴰ.cases_cons m)

-- what holds at each place holds of each rule
pub each_place : (P : List Rule) (Q : Rule → Type 0) → ((k : ℕ) → k < length P → Q (get_or P k no_rule)) → (r : Rule) → r ∈ P → Q r
each_place P Q f r m = let w = place_of P r no_rule m in subst Q w.2 (f w.0 w.1)
