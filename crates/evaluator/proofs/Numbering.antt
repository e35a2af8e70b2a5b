-- The part of a set with a number, put together from the matters of the set in turn.
use Rattle.std.proofs.Common.{◌≡◌, ℕ, Option, Some, Decides, zero, suc, ◌+◌, ◌*◌, ◌/◌, ◌%◌, ◌^◌, ◌<◌, min, Bool, true, false, cond, eqb, List, ◌∷◌, length, get_or, sym, refl, ap, ◌∙◌, add-one, arith, bit_or}
use native.Mathlib.Nat.{pow-succ'}
use Rattle.std.proofs.Math.Nat.{mul-add, mul_assoc, mul_comm, one-mul}
use Rattle.std.proofs.lemmas.Nat.{shr-shr}
use Rattle.std.proofs.lemmas.Bool.{eqb-true, eqb-false}
use denote.Param.Members.{Mut}
use denote.Ref.{Bor}
use Rattle.std.proofs.iter.Yields.{nat_range_steps}
use Rattle.std.proofs.lemmas.Bool.Decides.{Decides-eqb, same_from_decides}
use Rattle.std.proofs.lemmas.Iterator.{YieldsList, YieldsList-from_range}
use Rattle.std.proofs.lemmas.Iterator.Consumers.{YieldsList-at, YieldsList-from_filter, YieldsList-from_enumerate, YieldsList-turn}
use Rattle.std.specs.Fn.{CalledAt}
use Rattle.std.specs.Iterator.{Yields}
use Rattle.std.specs.Iterator.Adapters.{enumerate_source, enumerate_count, enumerate_steps, filter_source, filter_callee, filter_steps}
use Rattle.std.specs.declared.iter.Enumerate.{Enumerate}
use Rattle.std.specs.declared.iter.Filter.{Filter}
use Rattle.std.specs.declared.ops.Range.{Range}
use Rattle.rules.specs.Semantics.{Mem}
use Rattle.std.specs.Int.Bits.{or_shifted_r}
use Rattle.std.specs.List.{filter, fold, enumerate_from, range_with_len}
use Rattle.steps.specs.Subsets.{part}

-- whether the set m has the matter a
abbrev pub member : ℕ → ℕ → Bool
member m a = eqb (m / 2 ^ a % 2) 1

-- the set x with the matter of the pair, if the number t has the bit for its place
abbrev pub put : ℕ → ℕ → ℕ × ℕ → ℕ
put t x p = cond (eqb (t / 2 ^ p.0 % 2) 1) (bit_or x (2 ^ p.1)) x

-- the matters of the set m, of the k matters from i on, each with its place, from p on
abbrev pub placed : ℕ → ℕ → ℕ → ℕ → List (ℕ × ℕ)
placed m p i k = enumerate_from p (filter (member m) (range_with_len i k))

within_step : (p i k : ℕ) (d : ℕ × ℕ) (rest : List ℕ) → ((q j : ℕ) → j < length (enumerate_from q rest) → ((get_or (enumerate_from q rest) j d).0 < q + k) × ((get_or (enumerate_from q rest) j d).1 < i + 1 + k))
    → (b : Bool) (j : ℕ) → j < length (enumerate_from p (cond b (i ∷ rest) rest)) → ((get_or (enumerate_from p (cond b (i ∷ rest) rest)) j d).0 < p + suc k) × ((get_or (enumerate_from p (cond b (i ∷ rest) rest)) j d).1 < i + suc k)
within_step p i k d rest later true zero l = (omega arith, omega arith)
within_step p i k d rest later true (suc j) l = let h = later (p + 1) j (omega arith) in (omega (arith, h.0), omega (arith, h.1))
within_step p i k d rest later false j l = let h = later p j l in (omega (arith, h.0), omega (arith, h.1))

placed_within : (m p i k j : ℕ) (d : ℕ × ℕ) → j < length (placed m p i k) → ((get_or (placed m p i k) j d).0 < p + k) × ((get_or (placed m p i k) j d).1 < i + k)
placed_within m p i zero j d l = absurd (omega arith)
placed_within m p i (suc k) j d l = within_step p i k d (filter (member m) (range_with_len (i + 1) k)) (λ q n h. placed_within m q (i + 1) k n d h) (member m i) j l

pub in_range : {S : Type 0} {steps : S → Option (ℕ × ℕ) → S → Type 0} {s : S} (m : ℕ) → YieldsList steps (λ p. p) s (placed m 0 0 16)
    → (xs : List (ℕ × ℕ)) (t : S) → Yields steps s xs t → (r : Option (ℕ × ℕ)) (u : S) (p : ℕ × ℕ) → r ≡ Some p → steps t r u → (p.0 < 16) × (p.1 < 16)
in_range m e xs t y r u p i n =
    let turn = YieldsList-turn e xs t y r u p i n in
    let w = placed_within m 0 0 16 (length xs) p turn.0 in
    (rw turn.1 (omega (arith, w.0)), rw turn.1 (omega (arith, w.1)))

-- what the loop goes over
pub road : {F : Type 0} {g : Mut F (Bor ℕ × Unit {0}) Bool} {s e : Enumerate (Filter (Range ℕ) F)} {q : Filter (Range ℕ) F} {f : F} (m : ℕ) → s ≡ e → enumerate_source e ≡ q → enumerate_count e ≡ 0 → filter_source q ≡ record { start = 0; end = 16 } → filter_callee q ≡ f
    → ((x : ℕ) (b : Bool) (h : F) → CalledAt g f x b h → (h ≡ f) × Decides b (Mem x m)) → YieldsList (enumerate_steps (filter_steps nat_range_steps g)) (λ p. p) s (placed m 0 0 16)
road {g} m same source count range callee calls = YieldsList-at same (YieldsList-from_enumerate (YieldsList-at source (YieldsList-from_filter g (member m) (YieldsList-from_range 0 16 16 range refl) callee (λ x b h k. let c = calls x b h k in (c.0, same_from_decides b _ c.1 (Decides-eqb _ _))))) count)

-- which is still a set of the matters up to that one
put_is : (t x p i : ℕ) → x < 2 ^ i → (put t x (p, i) ≡ x + 2 ^ i * (t / 2 ^ p % 2)) × (put t x (p, i) < 2 ^ (i + 1))
put_is t x p i l = split (eqb (t / 2 ^ p % 2) 1) refl
  where
    wide : 2 ^ (i + 1) ≡ 2 * 2 ^ i
    wide = simp add-one (pow-succ' 2 i)

    split : (b : Bool) → eqb (t / 2 ^ p % 2) 1 ≡ b → (cond b (bit_or x (2 ^ i)) x ≡ x + 2 ^ i * (t / 2 ^ p % 2)) × (cond b (bit_or x (2 ^ i)) x < 2 ^ (i + 1))
    split true e =
        let h = ap (λ (c : ℕ). 2 ^ i * c) (eqb-true (t / 2 ^ p % 2) 1 e) in
        let o : bit_or x (2 ^ i) ≡ 2 ^ i + x = ap (bit_or x) (sym (one-mul (2 ^ i))) ∙ or_shifted_r 1 i x l ∙ ap (λ (v : ℕ). v + x) (one-mul (2 ^ i)) in
        (omega arith, omega (arith, wide))
    split false e =
        let z : t / 2 ^ p % 2 ≡ 0 = (let ne = eqb-false (t / 2 ^ p % 2) 1 e in omega arith) in
        let h = ap (λ (c : ℕ). 2 ^ i * c) z in
        (omega arith, omega (arith, wide))

spread : (w c q : ℕ) → w * c + 2 * w * q ≡ w * (c + 2 * q)
spread w c q = let e = mul-add w c (2 * q) in let h : w * (2 * q) ≡ 2 * w * q = sym (mul_assoc w 2 q) ∙ ap (λ (v : ℕ). v * q) (mul_comm w 2) in omega arith

put_step : (m t p i k x : ℕ) (rest : List ℕ) → x < 2 ^ i
    → fold (put t) (put t x (p, i)) (enumerate_from (p + 1) rest) ≡ put t x (p, i) + 2 ^ (i + 1) * part k (m / 2 ^ (i + 1)) (t / 2 ^ (p + 1))
    → fold (put t) x (enumerate_from p rest) ≡ x + 2 ^ (i + 1) * part k (m / 2 ^ (i + 1)) (t / 2 ^ p)
    → (b : Bool) → member m i ≡ b → fold (put t) x (enumerate_from p (cond b (i ∷ rest) rest)) ≡ x + 2 ^ i * part (suc k) (m / 2 ^ i) (t / 2 ^ p)
unfolding part
put_step m t p i k x rest l with without true e =
    let c = t / 2 ^ p % 2 in
    let q = part k (m / 2 ^ (i + 1)) (t / 2 ^ (p + 1)) in
    let h = eqb-true (m / 2 ^ i % 2) 1 e in
    let half : m / 2 ^ i / 2 ≡ m / 2 ^ (i + 1) = shr-shr m i 1 in
    let shifted : t / 2 ^ p / 2 ^ (m / 2 ^ i % 2) ≡ t / 2 ^ (p + 1) = ap (λ (v : ℕ). t / 2 ^ p / 2 ^ v) h ∙ shr-shr t p 1 in
    let same : part k (m / 2 ^ i / 2) (t / 2 ^ p / 2 ^ (m / 2 ^ i % 2)) ≡ q = ap (part k (m / 2 ^ i / 2)) shifted ∙ ap (λ (v : ℕ). part k v (t / 2 ^ (p + 1))) half in
    let inner : min (m / 2 ^ i % 2) c + 2 * part k (m / 2 ^ i / 2) (t / 2 ^ p / 2 ^ (m / 2 ^ i % 2)) ≡ c + 2 * q = omega arith in
    let wide : 2 ^ (i + 1) * q ≡ 2 * 2 ^ i * q = ap (λ (v : ℕ). v * q) (simp add-one (pow-succ' 2 i)) in
    let is = (put_is t x p i l).0 in
    let apart = spread (2 ^ i) c q in
    let all = ap (λ (v : ℕ). x + 2 ^ i * v) inner in
    omega arith
put_step m t p i k x rest l with without false e =
    let q = part k (m / 2 ^ (i + 1)) (t / 2 ^ p) in
    let h : m / 2 ^ i % 2 ≡ 0 = (let ne = eqb-false (m / 2 ^ i % 2) 1 e in omega arith) in
    let half : m / 2 ^ i / 2 ≡ m / 2 ^ (i + 1) = shr-shr m i 1 in
    let whole : t / 2 ^ p / 1 ≡ t / 2 ^ p = omega arith in
    let kept : t / 2 ^ p / 2 ^ (m / 2 ^ i % 2) ≡ t / 2 ^ p = ap (λ (v : ℕ). t / 2 ^ p / 2 ^ v) h ∙ whole in
    let same : part k (m / 2 ^ i / 2) (t / 2 ^ p / 2 ^ (m / 2 ^ i % 2)) ≡ q = ap (part k (m / 2 ^ i / 2)) kept ∙ ap (λ (v : ℕ). part k v (t / 2 ^ p)) half in
    let inner : min (m / 2 ^ i % 2) (t / 2 ^ p % 2) + 2 * part k (m / 2 ^ i / 2) (t / 2 ^ p / 2 ^ (m / 2 ^ i % 2)) ≡ 0 + 2 * q = omega arith in
    let wide : 2 ^ (i + 1) * q ≡ 2 * 2 ^ i * q = ap (λ (v : ℕ). v * q) (simp add-one (pow-succ' 2 i)) in
    let apart = spread (2 ^ i) 0 q in
    let all = ap (λ (v : ℕ). x + 2 ^ i * v) inner in
    omega arith

put_all : (m t p i k x : ℕ) → x < 2 ^ i → fold (put t) x (placed m p i k) ≡ x + 2 ^ i * part k (m / 2 ^ i) (t / 2 ^ p)
unfolding part
put_all m t p i zero x l = omega arith
put_all m t p i (suc k) x l =
    let wide : 2 ^ (i + 1) ≡ 2 * 2 ^ i = simp add-one (pow-succ' 2 i) in
    put_step m t p i k x (filter (member m) (range_with_len (i + 1) k)) l (put_all m t (p + 1) (i + 1) k (put t x (p, i)) (put_is t x p i l).1) (put_all m t p (i + 1) k x (omega arith)) (member m i) refl

pub put_part : (m t : ℕ) → fold (put t) 0 (placed m 0 0 16) ≡ part 16 m t
put_part m t =
    let all = put_all m t 0 0 16 0 (omega arith) in
    let same : part 16 (m / 1) (t / 1) ≡ part 16 m t = ap (part 16 (m / 1)) (omega arith) ∙ ap (λ (v : ℕ). part 16 v t) (omega arith) in
    omega arith
