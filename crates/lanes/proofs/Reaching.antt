-- How the firings are followed to the end.
use Rattle.std.proofs.Common.{◌≡◌, ℕ, suc, ◌+◌, ◌*◌, ◌^◌, ◌<◌, ◌≤◌, ◌⊎◌, List, [], ◌∷◌, ◌++◌, length, get_or, set, sym, refl, ap, ◌∙◌, subst, inl, inr, ⊎_elim, suc-mul, arith, get_or-set_other, get_or-set_same}
use lib.Bits.{bit_and, bit_or}
use Rattle.std.proofs.lemmas.Bool.{cases_lt, cases_eq}
use Rattle.std.proofs.lemmas.List.{get_or_append_left, get_or_push, length_push}
use Rattle.rules.specs.Semantics.{Mem}
use Rattle.rules.proofs.Bitwise.{mem_and, mem_and_left, mem_and_right, mem_or_left, mem_or_right, mem_or_cases, within_le, below_from_members, mem_below}
use Rattle.steps.specs.Parts.{SetOf}
use Rattle.lanes.specs.declared.firing.Firing.{Firing}
use Rattle.lanes.specs.Firing.{no_firing, at, Follows, Lanes, Comes, Rounded, Low, Fired}
use Rattle.lanes.specs.Firing.Follows.{by}

-- One firing

pub fired_one : (x : Firing) (old new : List ℕ) (w : ℕ) → x.head < length old → SetOf w (λ l. (l < 64) × ((j : ℕ) → Mem j x.needs → Mem l (get_or old j 0)))
    → new ≡ set old x.head (bit_or (get_or old x.head 0) (bit_and x.lanes w)) → Fired x old new
fired_one x old new w h s e =
    let own = get_or old x.head 0 in
    let add = bit_and x.lanes w in
    let here : get_or new x.head 0 ≡ bit_or own add = ap (λ (xs : List ℕ). get_or xs x.head 0) e ∙ get_or-set_same old x.head (bit_or own add) 0 h in
    let there : (a : ℕ) → (a ≡ x.head → ⊥) → get_or new a 0 ≡ get_or old a 0 = λ a ne. ap (λ (xs : List ℕ). get_or xs a 0) e ∙ get_or-set_other old x.head a (bit_or own add) 0 ne in
    record {
      keeps = λ a l m. ⊎_elim
          (λ q. subst (λ (i : ℕ). Lanes new i l) (sym q) (subst (Mem l) (sym here) (mem_or_left l own add (subst (λ (i : ℕ). Lanes old i l) q m))))
          (λ ne. subst (Mem l) (sym (there a ne)) m)
          (cases_eq a x.head);
      fires = λ a l b c. subst (λ (i : ℕ). Lanes new i l) (sym c.0) (subst (Mem l) (sym here) (mem_or_right l own add (mem_and l x.lanes w c.1 (s.all l (b, c.2)))));
      only = λ a l m. ⊎_elim
          (λ q. ⊎_elim
          (λ k. inl (subst (λ (i : ℕ). Lanes old i l) (sym q) k))
          (λ k. inr (q, mem_and_left l x.lanes w k, (s.only l (mem_and_right l x.lanes w k)).1))
          (mem_or_cases l own add (subst (Mem l) here (subst (λ (i : ℕ). Lanes new i l) q m))))
          (λ ne. inl (subst (Mem l) (there a ne) m))
          (cases_eq a x.head);
    }

-- The firings are low

pub low_none : Low []
low_none = record { heads = λ k h. absurd (omega arith); lanes = λ k l h. absurd (omega arith) }

pub low_push : (f : List Firing) (x : Firing) → x.head < 16 → x.lanes < 2 ^ 64 → Low f → Low (f ++ x ∷ [])
low_push f x head small low = let len = length_push f x in record {
  heads = λ k h. ⊎_elim
      (λ c. subst (λ (y : Firing). y.head < 16) (sym (get_or_append_left f (x ∷ []) no_firing k c)) (low.heads k c))
      (λ c. subst (λ (y : Firing). y.head < 16) (sym (get_or_push f x no_firing k (omega arith))) head)
      (cases_lt k (length f));
  lanes = λ k l h m. ⊎_elim
      (λ c. low.lanes k l c (subst (λ (y : Firing). Mem l y.lanes) (get_or_append_left f (x ∷ []) no_firing k c) m))
      (λ c. mem_below 64 x.lanes l small (subst (λ (y : Firing). Mem l y.lanes) (get_or_push f x no_firing k (omega arith)) m))
      (cases_lt k (length f));
}

-- One round

pub round_more : (f : List Firing) (i : ℕ) (old mid new : List ℕ) → i < length f → Low f → Rounded f i old mid → Fired (at f i) mid new → Rounded f (i + 1) old new
round_more f i old mid new h low r x = record {
  keeps = λ a l m. x.keeps a l (r.keeps a l m);
  fires = λ k b a l c. ⊎_elim
      (λ q. x.keeps a l (r.fires k q a l c))
      (λ q. let e : k ≡ i = omega arith in
      x.fires a l (low.lanes k l (omega arith) c.1) (subst (λ (j : ℕ). Comes (at f j) mid a l) e (c.0, c.1, λ j n. r.keeps j l (c.2 j n))))
      (cases_lt k i);
  only = λ g a l m. ⊎_elim (λ o. r.only g a l o) (λ c. by i h c.0 c.1 (λ j n. r.only g j l (c.2 j n))) (x.only a l m);
}

-- To the end

-- on the way, what is there follows
abbrev pub Followed : List Firing → List ℕ → Type 0
Followed f words = (a l : ℕ) → Lanes words a l → Follows f a l

-- what follows is in a lane
follows_low : (f : List Firing) (a l : ℕ) → Low f → Follows f a l → l < 64
follows_low f a l low (by k h e m n) = low.lanes k l h m

-- each round adds to the sum of the words

abbrev pub sum : List ℕ → ℕ
sum [] = 0
sum (x ∷ xs) = x + sum xs

grown_or_same : (xs ys : List ℕ) → length xs ≡ length ys → ((i : ℕ) → get_or xs i 0 ≤ get_or ys i 0) → (xs ≡ ys) ⊎ (sum xs < sum ys)
grown_or_same [] [] e h = inl refl
grown_or_same [] (y ∷ ys) e h = let z : 0 ≡ suc (length ys) = e in absurd (omega arith)
grown_or_same (x ∷ xs) [] e h = let z : suc (length xs) ≡ 0 = e in absurd (omega arith)
grown_or_same (x ∷ xs) (y ∷ ys) e h =
    let z : suc (length xs) ≡ suc (length ys) = e in
    let first : x ≤ y = h 0 in
    ⊎_elim
    (λ q. ⊎_elim (λ p. inl (λ i. p i ∷ q i)) (λ ne. let s : sum xs ≡ sum ys = ap sum q in inr (⊎_elim (λ l. omega arith) (λ l. absurd (ne (omega arith))) (cases_lt x y))) (cases_eq x y))
    (λ l. inr (omega arith))
    (grown_or_same xs ys (omega arith) (λ i. h (suc i)))

sum_bound : (xs : List ℕ) (b : ℕ) → ((i : ℕ) → get_or xs i 0 ≤ b) → sum xs ≤ length xs * b
sum_bound [] b h = omega arith
sum_bound (x ∷ xs) b h =
    let i = sum_bound xs b (λ i. h (suc i)) in
    let f : x ≤ b = h 0 in
    let m : suc (length xs) * b ≡ length xs * b + b = suc-mul (length xs) b in
    omega arith

pub round_grows : (f : List Firing) (old new : List ℕ) → Low f → Followed f old → Rounded f (length f) old new → length old ≡ 16 → length new ≡ 16 → (new ≡ old → ⊥) → (sum old < sum new) × (sum new ≤ 16 * 2 ^ 64)
round_grows f old new low w r p q ne =
    let bounded : (a : ℕ) → get_or new a 0 < 2 ^ 64 = λ a. below_from_members 64 (get_or new a 0) (λ l m. follows_low f a l low (r.only w a l m)) in
    let s = sum_bound new (2 ^ 64) (λ a. let b = bounded a in omega arith) in
    let e : length new * 2 ^ 64 ≡ 16 * 2 ^ 64 = ap (λ (x : ℕ). x * 2 ^ 64) q in (
      ⊎_elim (λ z. absurd (ne (sym z))) (λ l. l) (grown_or_same old new (p ∙ sym q) (λ i. within_le (get_or old i 0) (get_or new i 0) (λ l m. r.keeps i l m))),
      omega arith,
    )
