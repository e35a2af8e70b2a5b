-- Bits of a lane's number.
use Rattle.std.proofs.Common.{◌≡◌, ℕ, zero, suc, ◌+◌, ◌-◌, ◌*◌, ◌/◌, ◌%◌, ◌^◌, ◌<◌, ◌≤◌, Bool, true, ◌&&◌, eqb, ltb, List, [], ◌∷◌, get_or, sym, refl, ap, ◌∙◌, ⊎_elim, add-one, arith}
use lib.Bits.{bit_or}
use lib.Count.{ones, ones_step}
use Rattle.std.proofs.lemmas.Nat.{mod-pow-add, shr-shr}
use Rattle.std.proofs.lemmas.Bool.{cases_lt, and_parts, eqb-true, ltb-true}
use Rattle.rules.specs.Semantics.{Mem}
use Rattle.rules.proofs.Bitwise.{mem_below, mem_or_right, mem_or_cases, two}
use Rattle.steps.specs.Parts.{SetOf}
use Rattle.lanes.specs.declared.block.side.Side.{Side}
use Rattle.lanes.specs.declared.block.side.Side.TheVariants.{In, Out, Varying}
use Rattle.lanes.specs.Sides.{Takes}
use Rattle.steps.specs.Subsets.{rank, part}
use Rattle.steps.proofs.Subsets.{part_bit}

-- a test at each number below k, computed
abbrev below_all : ℕ → (ℕ → Bool) → Bool
below_all zero p = true
below_all (suc k) p = p k && below_all k p

each_below : (k : ℕ) (p : ℕ → Bool) → below_all k p ≡ true → (l : ℕ) → l < k → p l ≡ true
each_below zero p e l h = absurd (omega arith)
each_below (suc k) p e l h =
    let w = and_parts (p k) (below_all k p) e in
    ⊎_elim (λ b. each_below k p w.1 l b) (λ b. let q : l ≡ k = omega arith in ap p q ∙ w.0) (cases_lt l k)

-- the low bits of a number are those of the lane, and the others those of the first
pub low_bit : (k f l : ℕ) → k < 6 → f % 64 ≡ 0 → (f + l) / 2 ^ k % 2 ≡ l / 2 ^ k % 2
low_bit zero f l h e = let q : (f + l) / 1 % 2 ≡ l / 1 % 2 = omega arith in q
low_bit (suc zero) f l h e = let q : (f + l) / 2 % 2 ≡ l / 2 % 2 = omega arith in q
low_bit (suc (suc zero)) f l h e = let q : (f + l) / 4 % 2 ≡ l / 4 % 2 = omega arith in q
low_bit (suc (suc (suc zero))) f l h e = let q : (f + l) / 8 % 2 ≡ l / 8 % 2 = omega arith in q
low_bit (suc (suc (suc (suc zero)))) f l h e = let q : (f + l) / 16 % 2 ≡ l / 16 % 2 = omega arith in q
low_bit (suc (suc (suc (suc (suc zero))))) f l h e = let q : (f + l) / 32 % 2 ≡ l / 32 % 2 = omega arith in q
low_bit (suc (suc (suc (suc (suc (suc k)))))) f l h e = absurd (omega arith)

pub high_bit : (k f l : ℕ) → 6 ≤ k → l < 64 → f % 64 ≡ 0 → (f + l) / 2 ^ k % 2 ≡ f / 2 ^ k % 2
high_bit k f l h b e =
    let j = k - 6 in
    let q : 6 + j ≡ k = omega arith in
    let top : (f + l) / 64 ≡ f / 64 = omega arith in
    ap (λ (i : ℕ). (f + l) / 2 ^ i % 2) (sym q) ∙ ap (λ (x : ℕ). x % 2) (sym (shr-shr (f + l) 6 j)) ∙ ap (λ (x : ℕ). x / 2 ^ j % 2) top ∙ ap (λ (x : ℕ). x % 2) (shr-shr f 6 j) ∙ ap (λ (i : ℕ). f / 2 ^ i % 2) q

-- the word has bit l where l has bit k
abbrev fits : ℕ → ℕ → ℕ → Bool
fits k r l = eqb (r / 2 ^ l % 2) (l / 2 ^ k % 2)

abbrev table : List ℕ
table = 12297829382473034410 ∷ (14757395258967641292 ∷ (17361641481138401520 ∷ (18374966859414961920 ∷ (18446462603027742720 ∷ (18446744069414584320 ∷ [])))))

table_fits : below_all 6 (λ k. ltb (get_or table k 0) (2 ^ 64) && below_all 64 (fits k (get_or table k 0))) ≡ true
table_fits = refl

-- what the table has for a bit
pub lanes_with_bit : (k f : ℕ) → k < 6 → f % 64 ≡ 0 → SetOf (get_or table k 0) (λ l. (l < 64) × Mem k (f + l))
lanes_with_bit k f h e =
    let t = and_parts (ltb (get_or table k 0) (2 ^ 64)) (below_all 64 (fits k (get_or table k 0))) (each_below 6 (λ i. ltb (get_or table i 0) (2 ^ 64) && below_all 64 (fits i (get_or table i 0))) table_fits k h) in
    let small = ltb-true (get_or table k 0) (2 ^ 64) t.0 in
    let at : (l : ℕ) → l < 64 → get_or table k 0 / 2 ^ l % 2 ≡ l / 2 ^ k % 2 = λ l b. eqb-true _ _ (each_below 64 (fits k (get_or table k 0)) t.1 l b) in
    record {
      all = λ l w. at l w.0 ∙ sym (low_bit k f l h e) ∙ w.1;
      only = λ l m. let b = mem_below 64 (get_or table k 0) l small m in (b, low_bit k f l h e ∙ sym (at l b) ∙ m);
    }

-- the same side, said otherwise
pub takes_same : (s : Side) {Q R : ℕ → Type 0} → ((l : ℕ) → Q l → R l) → ((l : ℕ) → R l → Q l) → Takes s Q → Takes s R
takes_same In f g t = λ l h. f l (t l h)
takes_same Out f g t = λ l h r. t l h (g l r)
takes_same (Varying w) f g t = record { all = λ l h. t.all l (h.0, g l h.1); only = λ l m. let h = t.only l m in (h.0, f l h.1) }

-- the matters of a set below a, counted
pub rank_counted : (m a : ℕ) → ones (m % 2 ^ a) ≡ rank m a
unfolding rank ones
rank_counted m zero = let z : m % 1 ≡ 0 = omega arith in ap ones z
rank_counted m (suc a) =
    let low = m % 2 ^ (a + 1) in
    let p : low ≡ (m / 2 % 2 ^ a) * 2 + m % 2 = mod-pow-add m a 1 in
    let h : low / 2 ≡ m / 2 % 2 ^ a = omega (arith, p) in
    let l : low % 2 ≡ m % 2 = omega (arith, p) in
    let s = ones_step low in
    let q = ap ones h in
    let i = rank_counted (m / 2) a in
    let t = ap (λ (x : ℕ). ones (m % 2 ^ x)) (add-one a) in
    omega arith

-- a candidate has an undecided matter if its number has the bit of the matter's rank, and any other as it is
pub has_by_bit : (y u t a k : ℕ) → a < 16 → k ≡ rank u a → Mem a u → Mem k t → Mem a (bit_or y (part 16 u t))
has_by_bit y u t a k l e h m = let b = part_bit 16 a u t l in let q = ap (λ (i : ℕ). t / 2 ^ i % 2) e in mem_or_right a y (part 16 u t) (omega arith)

pub bit_by_has : (y u t a k : ℕ) → a < 16 → k ≡ rank u a → (Mem a y → ⊥) → Mem a (bit_or y (part 16 u t)) → Mem k t
bit_by_has y u t a k l e f m = ⊎_elim (λ x. absurd (f x)) (λ h. let b = part_bit 16 a u t l in let q = ap (λ (i : ℕ). t / 2 ^ i % 2) e in let v = two (t / 2 ^ k) in ⊎_elim (λ z. absurd (omega arith)) (λ o. o) v) (mem_or_cases a y (part 16 u t) m)
