-- Literal sets: what they hold, the meet of two, and one with a literal more or less.
use Rattle.std.proofs.Common.{◌≡◌, ℕ, ◌+◌, ◌^◌, ◌<◌, ◌⊎◌, sym, refl, subst, inl, inr, ⊎_elim, arith}
use lib.Bits.{bit_and}
use Rattle.std.proofs.lemmas.Bool.{cases_lt}
use Rattle.rules.specs.declared.rule.Sign.{Sign}
use Rattle.rules.specs.declared.rule.Sign.TheVariants.{Yes, No}
use Rattle.rules.specs.Semantics.{Mem, LiteralSet, Holds, ◌⊆◌, opposite, settled}
use Rattle.rules.specs.Parts.{plus}
use Rattle.rules.proofs.Bitwise.{mem_cases, same_members, mem_and, mem_and_left, mem_and_right, mem_or_left, mem_or_right, mem_or_cases, mem_one, mem_one_is, not_in_zero, without, without_was, without_not, without_other, rest_mem, rest_not, mem_below, within_le}

pub yes≢no : Yes ≡ No → ⊥
yes≢no e = let z : ◌≡◌ {A = ℕ} 0 1 = cc in omega arith

pub sign_cases : (s t : Sign) → (s ≡ t) ⊎ (s ≡ opposite t)
sign_cases Yes Yes = inl refl
sign_cases Yes No = inr refl
sign_cases No Yes = inr refl
sign_cases No No = inl refl

pub opposite_opposite : (s : Sign) → s ≡ opposite (opposite s)
opposite_opposite Yes = refl
opposite_opposite No = refl

pub ⊆_refl : (X : LiteralSet) → X ⊆ X
⊆_refl X = record { each = λ s a h. h }

pub ⊆_trans : {X Y Z : LiteralSet} → X ⊆ Y → Y ⊆ Z → X ⊆ Z
⊆_trans f g = record { each = λ s a h. g.each s a (f.each s a h) }

pub ⊆_antisym : {X Y : LiteralSet} → X ⊆ Y → Y ⊆ X → X ≡ Y
⊆_antisym {X} {Y} f g =
    let p = same_members X.0 Y.0 (f.each Yes) (g.each Yes) in
    let q = same_members X.1 Y.1 (f.each No) (g.each No) in
    λ i. (p i, q i)

pub empty_⊆ : (X : LiteralSet) → (0, 0) ⊆ X
empty_⊆ X = record { each = elim [ Yes ↦ λ a h. absurd (not_in_zero a h) | No ↦ λ a h. absurd (not_in_zero a h) ] }

pub holds_cases : (X : LiteralSet) (s : Sign) (a : ℕ) → (Holds X s a) ⊎ (Holds X s a → ⊥)
holds_cases X Yes a = mem_cases a X.0
holds_cases X No a = mem_cases a X.1

-- a two-valued set holds one sign of each matter
pub settled_other : (n M : ℕ) (s : Sign) (a : ℕ) → M < 2 ^ n → a < n → (Holds (settled n M) s a → ⊥) → Holds (settled n M) (opposite s) a
settled_other n M Yes a l h f = rest_mem n M a l h f
settled_other n M No a l h f = ⊎_elim (λ m. m) (λ g. absurd (f (rest_mem n M a l h g))) (mem_cases a M)

-- what both hold
abbrev pub meet : LiteralSet → LiteralSet → LiteralSet
meet X Y = (bit_and X.0 Y.0, bit_and X.1 Y.1)

pub meet_both : (X Y : LiteralSet) (s : Sign) (a : ℕ) → Holds X s a → Holds Y s a → Holds (meet X Y) s a
meet_both X Y Yes a h k = mem_and a X.0 Y.0 h k
meet_both X Y No a h k = mem_and a X.1 Y.1 h k

pub meet_left : (X Y : LiteralSet) → meet X Y ⊆ X
meet_left X Y = record { each = elim [ Yes ↦ λ a h. mem_and_left a X.0 Y.0 h | No ↦ λ a h. mem_and_left a X.1 Y.1 h ] }

pub meet_right : (X Y : LiteralSet) → meet X Y ⊆ Y
meet_right X Y = record { each = elim [ Yes ↦ λ a h. mem_and_right a X.0 Y.0 h | No ↦ λ a h. mem_and_right a X.1 Y.1 h ] }

-- X without one literal
abbrev pub minus : LiteralSet → Sign → ℕ → LiteralSet
minus X Yes a = (without X.0 a, X.1)
minus X No a = (X.0, without X.1 a)

pub minus_less : (X : LiteralSet) (s : Sign) (a : ℕ) → minus X s a ⊆ X
minus_less X Yes a = record { each = elim [ Yes ↦ λ b h. without_was X.0 a b h | No ↦ λ b h. h ] }
minus_less X No a = record { each = elim [ Yes ↦ λ b h. h | No ↦ λ b h. without_was X.1 a b h ] }

pub minus_not : (X : LiteralSet) (s : Sign) (a : ℕ) → Holds (minus X s a) s a → ⊥
minus_not X Yes a h = without_not X.0 a h
minus_not X No a h = without_not X.1 a h

pub minus_other : (X : LiteralSet) (s : Sign) (a : ℕ) (t : Sign) (b : ℕ) → Holds X t b → (t ≡ s → b ≡ a → ⊥) → Holds (minus X s a) t b
minus_other X Yes a Yes b h f = without_other X.0 a b h (f refl)
minus_other X Yes a No b h f = h
minus_other X No a Yes b h f = h
minus_other X No a No b h f = without_other X.1 a b h (f refl)

pub plus_more : (X : LiteralSet) (s : Sign) (a : ℕ) → X ⊆ plus X s a
plus_more X Yes a = record { each = elim [ Yes ↦ λ b h. mem_or_left b X.0 (2 ^ a) h | No ↦ λ b h. h ] }
plus_more X No a = record { each = elim [ Yes ↦ λ b h. h | No ↦ λ b h. mem_or_left b X.1 (2 ^ a) h ] }

pub plus_has : (X : LiteralSet) (s : Sign) (a : ℕ) → Holds (plus X s a) s a
plus_has X Yes a = mem_or_right a X.0 (2 ^ a) (mem_one a)
plus_has X No a = mem_or_right a X.1 (2 ^ a) (mem_one a)

-- it is the least that includes X and holds the literal
pub plus_least : (X Y : LiteralSet) (s : Sign) (a : ℕ) → X ⊆ Y → Holds Y s a → plus X s a ⊆ Y
plus_least X Y Yes a f h = record {
  each = elim [
    | Yes ↦ λ b k. ⊎_elim (λ m. f.each Yes b m) (λ m. subst (λ (x : ℕ). Mem x Y.0) (sym (mem_one_is a b m)) h) (mem_or_cases b X.0 (2 ^ a) k)
    | No ↦ λ b k. f.each No b k
  ];
}
plus_least X Y No a f h = record {
  each = elim [
    | Yes ↦ λ b k. f.each Yes b k
    | No ↦ λ b k. ⊎_elim (λ m. f.each No b m) (λ m. subst (λ (x : ℕ). Mem x Y.1) (sym (mem_one_is a b m)) h) (mem_or_cases b X.1 (2 ^ a) k)
  ];
}

-- and no matter with both
pub settled_one : (n M a : ℕ) → M < 2 ^ n → Holds (settled n M) Yes a → Holds (settled n M) No a → ⊥
settled_one n M a l h k = rest_not n M a l (mem_below n M a l h) k h

-- a larger set is a larger sum of its two numbers
pub grown : {X Y : LiteralSet} → X ⊆ Y → (Y ≡ X → ⊥) → X.0 + X.1 < Y.0 + Y.1
grown {X} {Y} f ne =
    let p = within_le X.0 Y.0 (f.each Yes) in
    let q = within_le X.1 Y.1 (f.each No) in
    ⊎_elim (λ l. l) (λ l. let a : Y.0 ≡ X.0 = omega arith in let b : Y.1 ≡ X.1 = omega arith in absurd (ne (λ i. (a i, b i)))) (cases_lt (X.0 + X.1) (Y.0 + Y.1))
