-- How the claimants of a literal are gathered, rule by rule.
use Rattle.std.proofs.Common.{◌≡◌, ℕ, ◌+◌, ◌*◌, ◌%◌, ◌^◌, ◌<◌, ◌⊎◌, List, length, get_or, set, replicate, sym, refl, ap, ◌∙◌, subst, inl, inr, ⊎_elim, arith, get_or-set_other, get_or-set_same}
use lib.Bits.{bit_and, bit_or}
use Rattle.std.proofs.lemmas.Nat.{one_shl}
use Rattle.std.proofs.lemmas.Bool.{cases_lt, cases_eq}
use Rattle.rules.specs.declared.rule.Rule.{Rule}
use Rattle.rules.specs.declared.rule.Sign.{Sign}
use Rattle.rules.specs.Parts.{no_rule}
use Rattle.rules.specs.Semantics.{Mem, LiteralSet, ◌⊆◌, body}
use Rattle.rules.proofs.Bitwise.{mem_and, mem_and_right, mem_or_left, mem_or_right, mem_or_cases, mem_one, not_in_zero}
use Rattle.steps.specs.Parts.{SetOf}
use Rattle.steps.proofs.SetOfs.{set_same, zero_at}
use Rattle.lanes.specs.declared.claimants.Claimants.{Claimants}
use Rattle.lanes.specs.Claiming.{Asserted, Gathered, Added, Among}

pub noted_none : (j l : ℕ) → Mem l (get_or (replicate 32 0) j 0) → Mem j 0
noted_none j l h = absurd (not_in_zero l (subst (Mem l) (zero_at 32 j) h))

-- a rule of the other sign changes nothing
pub gathered_skip : (rs : List Rule) (i : ℕ) (X : ℕ → LiteralSet) (s : Sign) (c : Claimants) → ((get_or rs i no_rule).sign ≡ s → ⊥) → Gathered rs i X s c → Gathered rs (i + 1) X s c
gathered_skip rs i X s c ne g = record {
  lanes = λ j h. set_same
      (λ l w. (w.0, (w.1.0, (let k = w.1.1 in omega arith), w.1.2)))
      (λ l w. (
        w.0,
        ⊎_elim
            (λ k. (w.1.0, k, w.1.2))
            (λ k. let b = w.1.1 in let e : w.1.0 ≡ i = omega arith in absurd (ne (ap (λ (x : ℕ). (get_or rs x no_rule).sign) (sym e) ∙ w.1.2.sign_is)))
            (cases_lt w.1.0 i),
      ))
      (g.lanes j h);
}

-- a rule of this sign adds the lanes in which its body is true
pub gathered_more : (rs : List Rule) (i : ℕ) (X : ℕ → LiteralSet) (s : Sign) (c d : Claimants) (w : ℕ) → (get_or rs i no_rule).sign ≡ s
    → SetOf w (λ l. (l < 64) × (body (get_or rs i no_rule) ⊆ X l)) → Added (get_or rs i no_rule).sheet w c d → Gathered rs i X s c → Gathered rs (i + 1) X s d
gathered_more rs i X s c d w e body-set add g = record {
  lanes = λ j h. ⊎_elim
      (λ q. subst (λ (x : ℕ). SetOf (get_or d.lanes x 0) (λ l. (l < 64) × Asserted rs (i + 1) (X l) s x)) (sym q) (here (subst (λ (x : ℕ). x < 32) q h)))
      (λ ne. subst (λ (x : ℕ). SetOf x (λ l. (l < 64) × Asserted rs (i + 1) (X l) s j)) (sym (add.there j ne))
      (set_same
      (λ l v. (v.0, (v.1.0, (let k = v.1.1 in omega arith), v.1.2)))
      (λ l v. (
        v.0,
        ⊎_elim
            (λ k. (v.1.0, k, v.1.2))
            (λ k. let b = v.1.1 in let q : v.1.0 ≡ i = omega arith in absurd (ne (sym (ap (λ (x : ℕ). (get_or rs x no_rule).sheet) (sym q) ∙ v.1.2.sheet_is))))
            (cases_lt v.1.0 i),
      ))
      (g.lanes j h)))
      (cases_eq j (get_or rs i no_rule).sheet);
}
  where
    t : ℕ
    t = (get_or rs i no_rule).sheet

    here : t < 32 → SetOf (get_or d.lanes t 0) (λ l. (l < 64) × Asserted rs (i + 1) (X l) s t)
    here h = set_same
        (λ l. ⊎_elim
        (λ m. let v = (g.lanes t h).only l m in (v.0, (v.1.0, (let k = v.1.1 in omega arith), v.1.2)))
        (λ m. let v = body-set.only l m in (v.0, (i, (omega arith), record { sign_is = e; sheet_is = refl; body_true = v.1 }))))
        (λ l v. ⊎_elim
        (λ k. inl ((g.lanes t h).all l (v.0, (v.1.0, k, v.1.2))))
        (λ k. let b = v.1.1 in let q : v.1.0 ≡ i = omega arith in inr (body-set.all l (v.0, subst (λ (x : ℕ). body (get_or rs x no_rule) ⊆ X l) q v.1.2.body_true)))
        (cases_lt v.1.0 i))
        add.here

pub added_some : (j w : ℕ) (c d : Claimants) → j < length c.lanes → d.lanes ≡ set c.lanes j (bit_or (get_or c.lanes j 0) w) → Added j w c d
added_some j w c d long f =
    let own = get_or c.lanes j 0 in
    let at : get_or d.lanes j 0 ≡ bit_or own w = ap (λ (xs : List ℕ). get_or xs j 0) f ∙ get_or-set_same c.lanes j (bit_or own w) 0 long in
    let other : (i : ℕ) → (i ≡ j → ⊥) → get_or d.lanes i 0 ≡ get_or c.lanes i 0 = λ i ne. ap (λ (xs : List ℕ). get_or xs i 0) f ∙ get_or-set_other c.lanes j i (bit_or own w) 0 ne in
    record {
      here = subst (λ (x : ℕ). SetOf x (λ l. Mem l own ⊎ Mem l w)) (sym at) (record { all = λ l. ⊎_elim (λ m. mem_or_left l own w m) (λ m. mem_or_right l own w m); only = λ l m. mem_or_cases l own w m });
      there = other;
    }

-- a sheet that gets lanes is noted too
pub noted_more : (j w : ℕ) (c : Claimants) → j < length c.lanes → j < 32 → (i l : ℕ) → Mem l (get_or (set c.lanes j (bit_or (get_or c.lanes j 0) w)) i 0) → Mem i (bit_or c.sheets (1 * 2 ^ j % 4294967296))
noted_more j w c long low i l h = subst (λ (x : ℕ). Mem i (bit_or c.sheets x)) (sym (one_shl j 32 low)) (⊎_elim
    (λ q. mem_or_right i c.sheets (2 ^ j) (subst (λ (x : ℕ). Mem x (2 ^ j)) (sym q) (mem_one j)))
    (λ ne. mem_or_left i c.sheets (2 ^ j) (c.noted i l (subst (Mem l) (get_or-set_other c.lanes j i (bit_or (get_or c.lanes j 0) w) 0 ne) h)))
    (cases_eq i j))

-- of the noted sheets, those of a set
pub among_set : (c : Claimants) (chosen r : ℕ) → SetOf r (λ l. (j : ℕ) × Mem j (bit_and c.sheets chosen) × Mem l (get_or c.lanes j 0)) → SetOf r (Among c chosen)
among_set c chosen r s = set_same
    (λ l w. (w.0, mem_and_right w.0 c.sheets chosen w.1, w.2))
    (λ l w. (w.0, mem_and w.0 c.sheets chosen (c.noted w.0 l w.2) w.1, w.2))
    s
