-- How a block is filled, matter by matter; each half of it has the words of one sign.
use Rattle.std.proofs.Common.{◌≡◌, ℕ, ◌+◌, ◌-◌, ◌^◌, ◌<◌, ◌≤◌, List, length, get_or, set, replicate, sym, ap, ◌∙◌, subst, ⊎_elim, arith, get_or-set_other, get_or-set_same, pow_pos}
use lib.Bits.{bit_or}
use Rattle.std.proofs.lemmas.Bool.{cases_lt}
use Rattle.rules.specs.declared.rule.Sign.TheVariants.{Yes, No}
use Rattle.rules.specs.Semantics.{Mem, LiteralSet, settled}
use Rattle.rules.proofs.Bitwise.{mem_or_left, mem_or_right, mem_or_cases, mem_one, mem_one_is, mem_below, rest_mem, rest_not, below_from_members, not_in_zero}
use Rattle.steps.specs.Parts.{SetOf}
use Rattle.steps.proofs.SetOfs.{set_same, zero_at}
use Rattle.lanes.specs.declared.block.Block.{Block}
use Rattle.lanes.specs.declared.block.side.Side.{Side}
use Rattle.lanes.specs.declared.block.side.Side.TheVariants.{In, Out, Varying}
use Rattle.lanes.specs.Blocks.{Has}
use Rattle.lanes.specs.Sides.{Takes, PutAs}
use Rattle.lanes.proofs.LaneSets.{set_full, set_not}

-- T a l says that lane l holds the literal of a. W has the words of the first n matters; S has those that some lane holds,
-- and V those that vary
pub record Half (T : ℕ → ℕ → Type 0) (n : ℕ) (W : List ℕ) (S V : ℕ) : Type 0 where
  pub lanes : (b : ℕ) → b < n → SetOf (get_or W b 0) (λ l. (l < 64) × T b l)
  pub blank : (b : ℕ) → n ≤ b → get_or W b 0 ≡ 0
  pub any : (b l : ℕ) → b < n → l < 64 → T b l → Mem b S
  pub each : (b l : ℕ) → l < 64 → Mem b S → (Mem b V → ⊥) → (b < n) × T b l
  pub low : (b : ℕ) → Mem b V → b < n

module _ (T : ℕ → ℕ → Type 0) where
  pub half_start : (W : List ℕ) (S V : ℕ) → W ≡ replicate 16 0 → S ≡ 0 → V ≡ 0 → Half T 0 W S V
  half_start W S V w s v = record {
    lanes = λ b h. absurd (omega arith);
    blank = λ b _. ap (λ (xs : List ℕ). get_or xs b 0) w ∙ zero_at 16 b;
    any = λ b l h. absurd (omega arith);
    each = λ b l _ h. absurd (not_in_zero b (subst (Mem b) s h));
    low = λ b h. absurd (not_in_zero b (subst (Mem b) v h));
  }

  module _ (n : ℕ) (W : List ℕ) (S V : ℕ) (half : Half T n W S V) where
    -- no lane holds the literal
    pub half_none : ((l : ℕ) → l < 64 → T n l → ⊥) → Half T (n + 1) W S V
    half_none f = record {
      lanes = λ b h. ⊎_elim (half.lanes b)
          (λ k. let e : b ≡ n = omega arith in subst (λ (i : ℕ). SetOf (get_or W i 0) (λ l. (l < 64) × T i l)) (sym e) (record {
            all = λ l w. absurd (f l w.0 w.1);
            only = λ l m. absurd (not_in_zero l (subst (Mem l) (half.blank n (omega arith)) m));
          }))
          (cases_lt b n);
      blank = λ b h. half.blank b (omega arith);
      any = λ b l h t p. ⊎_elim (λ k. half.any b l k t p) (λ k. let e : b ≡ n = omega arith in absurd (f l t (subst (λ (i : ℕ). T i l) e p))) (cases_lt b n);
      each = λ b l t h k. let w = half.each b l t h k in let c = w.0 in (omega arith, w.1);
      low = λ b h. let c = half.low b h in omega arith;
    }

    module _ (v : ℕ) (room : n < length W) (word : SetOf v (λ l. (l < 64) × T n l)) where
      here : get_or (set W n v) n 0 ≡ v
      here = get_or-set_same W n v 0 room

      there : (b : ℕ) → (b ≡ n → ⊥) → get_or (set W n v) b 0 ≡ get_or W b 0
      there b ne = get_or-set_other W n b v 0 ne

      all_words : (b : ℕ) → b < n + 1 → SetOf (get_or (set W n v) b 0) (λ l. (l < 64) × T b l)
      all_words b h = ⊎_elim
          (λ k. subst (λ (x : ℕ). SetOf x (λ l. (l < 64) × T b l)) (sym (there b (omega arith))) (half.lanes b k))
          (λ k. let e : b ≡ n = omega arith in subst (λ (i : ℕ). SetOf (get_or (set W n v) i 0) (λ l. (l < 64) × T i l)) (sym e) (subst (λ (x : ℕ). SetOf x (λ l. (l < 64) × T n l)) (sym here) word))
          (cases_lt b n)

      noted : (b l : ℕ) → b < n + 1 → l < 64 → T b l → Mem b (bit_or S (2 ^ n))
      noted b l h t p = ⊎_elim
          (λ k. mem_or_left b S (2 ^ n) (half.any b l k t p))
          (λ k. let e : b ≡ n = omega arith in mem_or_right b S (2 ^ n) (subst (λ (i : ℕ). Mem i (2 ^ n)) (sym e) (mem_one n)))
          (cases_lt b n)

      -- all lanes hold it
      pub half_all : ((l : ℕ) → l < 64 → T n l) → Half T (n + 1) (set W n v) (bit_or S (2 ^ n)) V
      half_all f = record {
        lanes = all_words;
        blank = λ b h. there b (omega arith) ∙ half.blank b (omega arith);
        any = noted;
        each = λ b l t h k. ⊎_elim
            (λ m. let w = half.each b l t m k in let c = w.0 in (omega arith, w.1))
            (λ m. let e = mem_one_is n b m in (omega arith, subst (λ (i : ℕ). T i l) (sym e) (f l t)))
            (mem_or_cases b S (2 ^ n) h);
        low = λ b h. let c = half.low b h in omega arith;
      }

      -- some lanes hold it
      pub half_some : Half T (n + 1) (set W n v) (bit_or S (2 ^ n)) (bit_or V (2 ^ n))
      half_some = record {
        lanes = all_words;
        blank = λ b h. there b (omega arith) ∙ half.blank b (omega arith);
        any = noted;
        each = λ b l t h k. ⊎_elim
            (λ m. let w = half.each b l t m (λ q. k (mem_or_left b V (2 ^ n) q)) in let c = w.0 in (omega arith, w.1))
            (λ m. absurd (k (mem_or_right b V (2 ^ n) m)))
            (mem_or_cases b S (2 ^ n) h);
        low = λ b h. ⊎_elim (λ m. let c = half.low b m in omega arith) (λ m. let e = mem_one_is n b m in omega arith) (mem_or_cases b V (2 ^ n) h);
      }

-- Both halves, of candidates M

abbrev pub Lacks : (ℕ → ℕ) → ℕ → ℕ → Type 0
Lacks M b l = Mem b (M l) → ⊥

pub record Both (M : ℕ → ℕ) (n : ℕ) (b : Block) : Type 0 where
  pub yes_half : Half (λ a l. Mem a (M l)) n b.yes b.some.0 b.varying
  pub no_half : Half (Lacks M) n b.no b.some.1 b.varying

pub both_start : (M : ℕ → ℕ) (b : Block) → b.yes ≡ replicate 16 0 → b.no ≡ replicate 16 0 → b.some ≡ (0, 0) → b.varying ≡ 0 → Both M 0 b
both_start M b held denied some varying = record {
  yes_half = half_start (λ a l. Mem a (M l)) b.yes b.some.0 b.varying held (ap (λ (x : LiteralSet). x.0) some) varying;
  no_half = half_start (Lacks M) b.no b.some.1 b.varying denied (ap (λ (x : LiteralSet). x.1) some) varying;
}

full_word : {T : ℕ → Type 0} → ((l : ℕ) → l < 64 → T l) → SetOf 18446744073709551615 (λ l. (l < 64) × T l)
full_word f = record { all = λ l w. set_full.all l w.0; only = λ l m. let b = set_full.only l m in (b, f l b) }

Halved : (T : ℕ → ℕ → Type 0) (n : ℕ) {W W' : List ℕ} {S S' V V' : ℕ} → W' ≡ W → S' ≡ S → V' ≡ V → Half T n W S V → Half T n W' S' V'
Halved T n {W} {W'} {S} {S'} {V} {V'} e f g h = subst (λ (x : List ℕ). Half T n x S' V') (sym e) (subst (λ (x : ℕ). Half T n W x V') (sym f) (subst (λ (x : ℕ). Half T n W S x) (sym g) h))

pub both_more : (M : ℕ → ℕ) (n : ℕ) (s : Side) (b c : Block) → n < 16 → Takes s (λ l. Mem n (M l)) → PutAs n s b c → Both M n b → Both M (n + 1) c
both_more M n In b c low t p h = record {
  yes_half = Halved (λ a l. Mem a (M l)) (n + 1) p.0 (ap (λ (x : LiteralSet). x.0) p.2) p.3 (half_all (λ a l. Mem a (M l)) n b.yes b.some.0 b.varying h.yes_half 18446744073709551615 (let e = b.whole in omega arith) (full_word t) t);
  no_half = Halved (Lacks M) (n + 1) p.1 (ap (λ (x : LiteralSet). x.1) p.2) p.3 (half_none (Lacks M) n b.no b.some.1 b.varying h.no_half (λ l k f. f (t l k)));
}
both_more M n Out b c low t p h = record {
  yes_half = Halved (λ a l. Mem a (M l)) (n + 1) p.0 (ap (λ (x : LiteralSet). x.0) p.2) p.3 (half_none (λ a l. Mem a (M l)) n b.yes b.some.0 b.varying h.yes_half t);
  no_half = Halved (Lacks M) (n + 1) p.1 (ap (λ (x : LiteralSet). x.1) p.2) p.3 (half_all (Lacks M) n b.no b.some.1 b.varying h.no_half 18446744073709551615 (let e = b.complete in omega arith) (full_word t) t);
}
both_more M n (Varying w) b c low t p h = record {
  yes_half = Halved (λ a l. Mem a (M l)) (n + 1) p.0 (ap (λ (x : LiteralSet). x.0) p.2) p.3 (half_some (λ a l. Mem a (M l)) n b.yes b.some.0 b.varying h.yes_half w (let e = b.whole in omega arith) t);
  no_half = Halved (Lacks M) (n + 1) p.1 (ap (λ (x : LiteralSet). x.1) p.2) p.3 (half_some (Lacks M) n b.no b.some.1 b.varying h.no_half (18446744073709551615 - w) (let e = b.complete in omega arith)
      (set_same (λ l k. (k.0, λ m. k.1 (k.0, m))) (λ l k. (k.0, λ m. k.1 m.1)) (set_not (below_from_members 64 w (λ l m. (t.only l m).0)) t)));
}

-- the whole block
pub both_has : (M : ℕ → ℕ) (n : ℕ) (b : Block) → ((l : ℕ) → M l < 2 ^ n) → Both M n b → Has (λ l. settled n (M l)) b
both_has M n b small h = record {
  lanes = elim [
    | Yes ↦ λ a _. ⊎_elim (h.yes_half.lanes a) (λ k. nothing b.yes a (λ l. Mem a (M l)) (h.yes_half.blank a k) (λ l m. let c = mem_below n (M l) a (small l) m in omega arith)) (cases_lt a n)
    | No ↦ λ a _. ⊎_elim
        (λ k. set_same (λ l w. (w.0, rest_mem n (M l) a (small l) k w.1)) (λ l w. (w.0, λ m. rest_not n (M l) a (small l) k w.1 m)) (h.no_half.lanes a k))
        (λ k. nothing b.no a (λ l. Mem a (2 ^ n - 1 - M l)) (h.no_half.blank a k) (λ l m. let c = no_below a l m in omega arith))
        (cases_lt a n)
  ];
  any = elim [
    | Yes ↦ λ a l t m. h.yes_half.any a l (mem_below n (M l) a (small l) m) t m
    | No ↦ λ a l t m. let c = no_below a l m in h.no_half.any a l c t (λ k. rest_not n (M l) a (small l) c m k)
  ];
  each = elim [
    | Yes ↦ λ a l t m k. (h.yes_half.each a l t m k).1
    | No ↦ λ a l t m k. let w = h.no_half.each a l t m k in rest_mem n (M l) a (small l) w.0 w.1
  ];
}
  where
    no_below : (a l : ℕ) → Mem a (2 ^ n - 1 - M l) → a < n
    no_below a l m = mem_below n (2 ^ n - 1 - M l) a (let p = pow_pos n in omega arith) m

    nothing : (W : List ℕ) (a : ℕ) (Q : ℕ → Type 0) → get_or W a 0 ≡ 0 → ((l : ℕ) → Q l → ⊥) → SetOf (get_or W a 0) (λ l. (l < 64) × Q l)
    nothing W a Q z f = record { all = λ l w. absurd (f l w.1); only = λ l m. absurd (not_in_zero l (subst (Mem l) z m)) }
