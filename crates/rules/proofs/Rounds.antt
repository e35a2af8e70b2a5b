-- The turns from the empty set come to rest after at most 2 n rounds.
use Rattle.std.proofs.Common.{◌≡◌, ℕ, zero, suc, ◌+◌, ◌*◌, ◌^◌, ◌<◌, ◌≤◌, Bool, true, not, ◌&&◌, ◌⊎◌, List, sym, refl, ap, ◌∙◌, subst, inl, inr, ⊎_elim, add-one, arith}
use lib.Count.{ones}
use Rattle.std.proofs.lemmas.Bool.{cases_Bool, cases_lt, and_parts}
use Rattle.std.proofs.lemmas.Nat.{ones-le}
use Rattle.std.proofs.lemmas.Bool.Decides.{not_from_Decides, Decides-not}
use Rattle.rules.specs.declared.rule.Rule.{Rule}
use Rattle.rules.specs.declared.rule.Sign.TheVariants.{Yes, No}
use Rattle.rules.specs.Semantics.{LiteralSet, ◌⊆◌, Overruling, strictly, Turn, After, Rests, Formed}
use Rattle.rules.specs.Semantics.After.{start, more}
use Rattle.rules.proofs.Bitwise.{below_from_members, ones_more}
use Rattle.rules.proofs.Literals.{empty_⊆}
use Rattle.rules.proofs.Theory.{step_bounded, turn_monotone, turn_unique}
use Rattle.rules.proofs.Computed.{step, step_is, same_set, decides_same}

abbrev pub turn : List Rule → Overruling → ℕ → LiteralSet → LiteralSet
turn P over n X = step P (strictly over) n (step P over n X)

pub turn_is : (P : List Rule) (over : Overruling) (n : ℕ) (X : LiteralSet) → Turn P over n X (turn P over n X)
turn_is P over n X = record { between = step P over n X; broad = step_is P over n X; narrow = step_is P (strictly over) n (step P over n X) }

abbrev pub chain : List Rule → Overruling → ℕ → ℕ → LiteralSet
chain P over n zero = (0, 0)
chain P over n (suc k) = turn P over n (chain P over n k)

abbrev pub size : LiteralSet → ℕ
size X = ones X.0 + ones X.1

module _ (P : List Rule) (over : Overruling) (n : ℕ) where
  pub chain_after : (k : ℕ) → After P over n k (chain P over n k)
  chain_after zero = start
  chain_after (suc k) = more (chain_after k) (turn_is P over n (chain P over n k))

  pub after_chain : {k : ℕ} {X : LiteralSet} → After P over n k X → X ≡ chain P over n k
  after_chain start = refl
  after_chain (more {k = k} {X = X} {Z = Z} r t) = turn_unique (subst (λ (Y : LiteralSet). Turn P over n Y Z) (after_chain r) t) (turn_is P over n (chain P over n k))

  pub chain_next : (k : ℕ) → Turn P over n (chain P over n k) (chain P over n (suc k))
  chain_next k = turn_is P over n (chain P over n k)

  pub rising : (k : ℕ) → chain P over n k ⊆ chain P over n (suc k)
  rising zero = empty_⊆ (chain P over n 1)
  rising (suc k) = turn_monotone (rising k) (chain_next k) (chain_next (suc k))

  module _ (formed : Formed n P) where
    bounded : (k : ℕ) → ((chain P over n k).0 < 2 ^ n) × ((chain P over n k).1 < 2 ^ n)
    bounded zero = (lib.Pow.pow_pos n, lib.Pow.pow_pos n)
    bounded (suc k) = let s = (chain_next k).narrow in (
      below_from_members n (chain P over n (suc k)).0 (λ a h. step_bounded Yes a formed s h),
      below_from_members n (chain P over n (suc k)).1 (λ a h. step_bounded No a formed s h),
    )

    larger : (k : ℕ) → (chain P over n k ≡ chain P over n (suc k) → ⊥) → size (chain P over n k) < size (chain P over n (suc k))
    larger k ne =
        let b = bounded k in
        let c = bounded (suc k) in
        let f = rising k in
        ⊎_elim
        (λ p. ⊎_elim (λ q. absurd (ne (λ i. (p i, q i)))) (λ q. let e = ap ones p in omega arith)
        (ones_more n (chain P over n k).1 (chain P over n (suc k)).1 b.1 c.1 (f.each No)))
        (λ p. ⊎_elim (λ q. let e = ap ones q in omega arith) (λ q. omega arith)
        (ones_more n (chain P over n k).1 (chain P over n (suc k)).1 b.1 c.1 (f.each No)))
        (ones_more n (chain P over n k).0 (chain P over n (suc k)).0 b.0 c.0 (f.each Yes))

    small : (k : ℕ) → size (chain P over n k) ≤ 2 * n
    small k = let b = bounded k in let p = ones-le n (chain P over n k).0 b.0 in let q = ones-le n (chain P over n k).1 b.1 in omega arith

    moves : ℕ → Type 0
    moves k = (j : ℕ) → j < k → chain P over n j ≡ chain P over n (suc j) → ⊥

    at_rest : (k : ℕ) → moves k → chain P over n k ≡ chain P over n (suc k) → Rests P over n k (chain P over n k)
    unfolding moves
    at_rest k m e = record {
      comes = chain_after k;
      stays = subst (λ (Y : LiteralSet). Turn P over n (chain P over n k) Y) (sym e) (chain_next k);
      not_before = λ j Y l r t. let same = after_chain r in m j l
          (turn_unique (subst (λ (Z : LiteralSet). Turn P over n Z Z) same t) (chain_next j));
    }

    look : (k : ℕ) → ((j : ℕ) × (X : LiteralSet) × (j < k) × Rests P over n j X) ⊎ ((k ≤ size (chain P over n k)) × moves k)
    unfolding moves
    look zero = inr (omega arith, λ j l. absurd (omega arith))
    look (suc k) = ⊎_elim
        (λ w. inl (w.0, w.1, (let l = w.2 in omega arith), w.3))
        (λ w. ⊎_elim
        (λ t. inl (k, chain P over n k, omega arith, at_rest k w.1 ((decides_same (chain P over n k) (chain P over n (suc k))).0 t)))
        (λ t. let ne = not_from_Decides (same_set (chain P over n k) (chain P over n (suc k))) (decides_same (chain P over n k) (chain P over n (suc k))) t in
        let l = larger k ne in
        inr ((let h = w.0 in omega arith), λ j g. ⊎_elim (λ b. w.1 j b) (λ b. let e : j ≡ k = omega arith in subst (λ (i : ℕ). chain P over n i ≡ chain P over n (suc i) → ⊥) (sym e) ne) (cases_lt j k)))
        (cases_Bool (same_set (chain P over n k) (chain P over n (suc k)))))
        (look k)

    -- they come to rest
    pub come_to_rest : (k : ℕ) × (X : LiteralSet) × (k ≤ 2 * n) × Rests P over n k X
    come_to_rest = ⊎_elim
        (λ w. (w.0, w.1, (let l = w.2 in omega arith), w.3))
        (λ w. let s = small (suc (2 * n)) in let h = w.0 in absurd (omega arith))
        (look (suc (2 * n)))

-- by computation: no two sets up to k are equal, and those at k and k + 1 are
abbrev pub moving : List Rule → Overruling → ℕ → ℕ → Bool
moving P over n zero = true
moving P over n (suc k) = not (same_set (chain P over n k) (chain P over n (suc k))) && moving P over n k

abbrev pub resting : List Rule → Overruling → ℕ → ℕ → Bool
resting P over n k = moving P over n k && same_set (chain P over n k) (chain P over n (suc k))

moving_each : (P : List Rule) (over : Overruling) (n k : ℕ) → moving P over n k ≡ true → (j : ℕ) → j < k → chain P over n j ≡ chain P over n (suc j) → ⊥
moving_each P over n zero t j l = absurd (omega arith)
moving_each P over n (suc k) t j l =
    let further = moving_each P over n k in
    let w = and_parts (not (same_set (chain P over n k) (chain P over n (suc k)))) (moving P over n k) t in
    let d = Decides-not (same_set (chain P over n k) (chain P over n (suc k))) (decides_same (chain P over n k) (chain P over n (suc k))) in
    ⊎_elim (λ b. further w.1 j b)
    (λ b. let e : j ≡ k = omega arith in subst (λ (i : ℕ). chain P over n i ≡ chain P over n (suc i) → ⊥) (sym e) (d.0 w.0))
    (cases_lt j k)

pub rests_by : (P : List Rule) (over : Overruling) (n k : ℕ) → resting P over n k ≡ true → Rests P over n k (chain P over n k)
rests_by P over n k t =
    let w = and_parts (moving P over n k) (same_set (chain P over n k) (chain P over n (suc k))) t in
    let e = (decides_same (chain P over n k) (chain P over n (suc k))).0 w.1 in
    record {
      comes = chain_after P over n k;
      stays = subst (λ (Y : LiteralSet). Turn P over n (chain P over n k) Y) (sym e) (chain_next P over n k);
      not_before = λ j Y l r u. moving_each P over n k w.0 j l
          (turn_unique (subst (λ (Z : LiteralSet). Turn P over n Z Z) (after_chain P over n r) u) (chain_next P over n j));
    }

-- for a loop that counts the turns: what is known while the sets still move, and at the end

pub after_unique : {P : List Rule} {over : Overruling} {n k : ℕ} {X Y : LiteralSet} → After P over n k X → After P over n k Y → X ≡ Y
after_unique {P} {over} {n} a b = after_chain P over n a ∙ sym (after_chain P over n b)

pub record Counted (P : List Rule) (over : Overruling) (n k : ℕ) (X : LiteralSet) : Type 0 where
  pub comes : After P over n k X
  pub not_before : (j : ℕ) (Y : LiteralSet) → j < k → After P over n j Y → Turn P over n Y Y → ⊥

pub counted_start : (P : List Rule) (over : Overruling) (n : ℕ) → Counted P over n 0 (0, 0)
counted_start P over n = record { comes = start; not_before = λ j Y l. absurd (omega arith) }

pub counted_few : {P : List Rule} {over : Overruling} {n k : ℕ} {X : LiteralSet} → Formed n P → Counted P over n k X → k ≤ 2 * n
counted_few {P} {over} {n} {k} formed c =
    let w = come_to_rest P over n formed in
    let l = w.2 in
    ⊎_elim (λ h. absurd (c.not_before w.0 w.1 h w.3.comes w.3.stays)) (λ h. omega arith) (cases_lt w.0 k)

pub counted_more : {P : List Rule} {over : Overruling} {n k : ℕ} {X Z : LiteralSet} → Counted P over n k X → Turn P over n X Z → (Z ≡ X → ⊥) → Counted P over n (k + 1) Z
counted_more {P} {over} {n} {k} {X} {Z} c t ne = subst (λ (i : ℕ). Counted P over n i Z) (sym (add-one k)) (record {
  comes = more c.comes t;
  not_before = λ j Y l a u. ⊎_elim
      (λ h. c.not_before j Y h a u)
      (λ h. let e : j ≡ k = omega arith in
      let same : Y ≡ X = after_unique (subst (λ (i : ℕ). After P over n i Y) e a) c.comes in
      ne (turn_unique t (subst (λ (W : LiteralSet). Turn P over n W W) same u)))
      (cases_lt j k);
})

pub counted_end : {P : List Rule} {over : Overruling} {n k : ℕ} {X : LiteralSet} → Counted P over n k X → Turn P over n X X → Rests P over n k X
counted_end c t = record { comes = c.comes; stays = t; not_before = c.not_before }
