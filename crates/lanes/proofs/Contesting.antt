-- What a contest says of the rules about a matter.
use Rattle.std.proofs.Common.{◌≡◌, ℕ, ◌-◌, ◌^◌, ◌<◌, true, List, get_or, sym, refl, ap, ◌∙◌, subst, inl, inr, ⊎_elim, arith}
use lib.Bits.{bit_and, bit_or}
use Rattle.std.proofs.lemmas.Bool.{cases_lt}
use Rattle.std.proofs.lemmas.List.{get_or_past}
use Rattle.rules.specs.declared.rule.Rule.{Rule}
use Rattle.rules.specs.declared.rule.Sign.{Sign}
use Rattle.rules.specs.declared.rule.Sign.TheVariants.{Yes, No}
use Rattle.rules.specs.Parts.{no_rule}
use Rattle.rules.specs.Semantics.{Mem, LiteralSet, Holds, ◌⊆◌, ◌∈◌, body, opposite, Overruling, Rejected, Default}
use Rattle.rules.proofs.Bitwise.{rest_mem, mem_below, not_in_zero}
use Rattle.rules.proofs.Computed.{placed, place_of}
use Rattle.steps.specs.Parts.{SetOf}
use Rattle.steps.proofs.SetOfs.{set_same}
use Rattle.lanes.specs.declared.contest.Contest.{Contest}
use Rattle.lanes.specs.Claiming.{Asserts, Among}
use Rattle.lanes.specs.Contesting.{side, Hears, Unrejected}
use Rattle.lanes.specs.Settling.{Backed, Stands}
use Rattle.lanes.specs.Founding.{Live}
use Rattle.lanes.proofs.LaneSets.{set_own, set_or, set_and, set_not}

module _ (Q : List Rule) (over : Overruling) (X : ℕ → LiteralSet) (a : ℕ) (c : Contest) (hears : Hears Q over X a c) where
  abbrev rs : List Rule
  rs = c.rules.now

  abbrev table : List ℕ
  table = c.overrulers.now

  -- a rule that claims the literal in a lane
  claimant : (s : Sign) (l j : ℕ) → j < 32 → Mem l (get_or (side s c).lanes j 0) → (r : Rule) × (r ∈ rs) × Asserts r (X l) s j
  claimant s l j h m =
      let w = ((hears.contested.each s).lanes j h).only l m in
      (get_or rs w.1.0 no_rule, placed rs w.1.0 no_rule w.1.1, w.1.2)

  claims : (s : Sign) (l : ℕ) (r : Rule) → l < 64 → r ∈ Q → r.head ≡ a → r.sign ≡ s → body r ⊆ X l → Mem l (get_or (side s c).lanes r.sheet 0)
  claims s l r h m e f b =
      let i = hears.about.all r (m, e) in
      let p = place_of rs r no_rule i in
      ((hears.contested.each s).lanes r.sheet (c.sheets r i)).all l (h, (p.0, p.1, subst (λ (q : Rule). Asserts q (X l) s r.sheet) (sym p.2) (record { sign_is = f; sheet_is = refl; body_true = b })))

  -- a rule is rejected exactly if a sheet that overrules its own claims the opposite
  pub rejected_among : (s : Sign) (l : ℕ) (r : Rule) → l < 64 → r.sheet < 32 → r.head ≡ a → r.sign ≡ s → Rejected Q over (X l) r → Among (side (opposite s) c) (get_or table r.sheet 0) l
  rejected_among s l r h k e f j =
      let t = j.rejecter in
      let w = j.rejects in
      let m = hears.about.all t (j.of_the_list, w.clash.0 ∙ e) in (
        t.sheet,
        (hears.tabled.each r.sheet k).all t.sheet (c.sheets t m, w.overrules),
        claims (opposite s) l t h j.of_the_list (w.clash.0 ∙ e) (w.clash.1 ∙ ap opposite f) w.body_true,
      )

  pub among_rejected : (s : Sign) (l : ℕ) (r : Rule) → r.sheet < 32 → r.head ≡ a → r.sign ≡ s → Among (side (opposite s) c) (get_or table r.sheet 0) l → Rejected Q over (X l) r
  among_rejected s l r k e f w =
      let o = (hears.tabled.each r.sheet k).only w.0 w.1 in
      let t = claimant (opposite s) l w.0 o.0 w.2 in
      let q = hears.about.only t.0 t.1 in record {
        rejecter = t.0;
        of_the_list = q.0;
        rejects = record { clash = (q.1 ∙ sym e, t.2.sign_is ∙ ap opposite (sym f)); body_true = t.2.body_true; overrules = subst (λ (j : ℕ). over j r.sheet ≡ true) (sym t.2.sheet_is) o.1 };
      }

  pub backed : (s : Sign) (l j : ℕ) → l < 64 → j < 32 → Unrejected c s l j → Backed Q over (X l) s a
  backed s l j h k u =
      let w = claimant s l j k u.claims in
      let r = w.0 in
      let q = hears.about.only r w.1 in record {
        backer = r;
        survives = record { of_the_list = q.0; unrejected = λ x. u.unopposed (subst (λ (i : ℕ). Among (side (opposite s) c) (get_or table i 0) l) w.2.sheet_is (rejected_among s l r h (c.sheets r w.1) q.1 w.2.sign_is x)) };
        body_true = w.2.body_true;
        sign_is = w.2.sign_is;
        head_is = q.1;
      }

  pub unrejected : (s : Sign) (l : ℕ) → l < 64 → (b : Backed Q over (X l) s a) → Unrejected c s l b.backer.sheet
  unrejected s l h b =
      let r = b.backer in
      let m = b.survives.of_the_list in record {
        claims = claims s l r h m b.head_is b.sign_is b.body_true;
        unopposed = λ w. b.survives.unrejected (among_rejected s l r (c.sheets r (hears.about.all r (m, b.head_is))) b.head_is b.sign_is w);
      }

  pub backer_low : (s : Sign) (l : ℕ) → (b : Backed Q over (X l) s a) → b.backer.sheet < 32
  backer_low s l b = c.sheets b.backer (hears.about.all b.backer (b.survives.of_the_list, b.head_is))

  -- nobody claims the matter exactly where it is a default
  pub default_from : (n l : ℕ) → l < 64 → a < n → (Among c.yes (2 ^ 32 - 1) l → ⊥) → Default Q n (X l) a
  default_from n l h k f = record {
    a_matter = k;
    unaffirmed = λ r m w. f (r.sheet, full r.sheet (c.sheets r (hears.about.all r (m, w.head_is))), claims Yes l r h m w.head_is w.sign_is w.body_true);
  }
    where
      full : (j : ℕ) → j < 32 → Mem j (2 ^ 32 - 1)
      full j h = rest_mem 32 0 j (omega arith) h (λ z. not_in_zero j z)

  pub default_to : (n l : ℕ) → Default Q n (X l) a → Among c.yes (2 ^ 32 - 1) l → ⊥
  default_to n l d w =
      let e = c.yes.whole in
      let k : w.0 < 32 = ⊎_elim (λ b. b) (λ b. absurd (not_in_zero l (subst (Mem l) (get_or_past c.yes.lanes w.0 0 (omega arith)) w.2))) (cases_lt w.0 32) in
      let t = claimant Yes l w.0 k w.2 in
      let q = hears.about.only t.0 t.1 in
      d.unaffirmed t.0 q.0 (record { sign_is = t.2.sign_is; head_is = q.1; body_true = t.2.body_true })

  -- the lanes in which the matter stands
  pub stands_lanes : (n y m held denied unclaimed : ℕ) → a < n
      → SetOf y (λ l. (l < 64) × Holds (X l) Yes a) → SetOf m (λ l. (l < 64) × Holds (X l) No a)
      → SetOf held (λ l. (j : ℕ) × (j < 32) × ((l < 64) × Unrejected c Yes l j))
      → SetOf denied (λ l. (j : ℕ) × (j < 32) × ((l < 64) × Unrejected c No l j))
      → SetOf unclaimed (λ l. (l < 64) × (Among c.yes (2 ^ 32 - 1) l → ⊥))
      → SetOf (bit_or (bit_and y held) (bit_and m (bit_or denied unclaimed))) (λ l. (l < 64) × Stands Q over n (X l) a)
  stands_lanes n y m held denied unclaimed below ys ms hs ds us = set_same
      (λ l. ⊎_elim
      (λ w. let u = w.1 in (w.0.0, inl (w.0.1, backed Yes l u.0 w.0.0 u.1 u.2.1)))
      (λ w. (
        w.0.0,
        inr (
          w.0.1,
          ⊎_elim
              (λ u. inl (backed No l u.0 w.0.0 u.1 u.2.1))
              (λ u. inr (default_from n l w.0.0 below u.1))
              w.1,
        ),
      )))
      (λ l w. ⊎_elim
      (λ v. let b = v.1 in inl ((w.0, v.0), (b.backer.sheet, backer_low Yes l b, (w.0, unrejected Yes l w.0 b))))
      (λ v. inr (
        (w.0, v.0),
        ⊎_elim
            (λ b. inl (b.backer.sheet, backer_low No l b, (w.0, unrejected No l w.0 b)))
            (λ d. inr (w.0, default_to n l d))
            v.1,
      ))
      w.1)
      (set_or (set_and ys hs) (set_and ms (set_or ds us)))

  -- the lanes in which a rule is live
  pub live_lanes : (r : Rule) (b v : ℕ) → r ∈ rs → v < 2 ^ 64 → SetOf b (λ l. (l < 64) × (body r ⊆ X l)) → SetOf v (Among (side (opposite r.sign) c) (get_or table r.sheet 0)) → SetOf (bit_and b (2 ^ 64 - 1 - v)) (λ l. (l < 64) × Live Q over (X l) r)
  live_lanes r b v m small bs vs =
      let q = hears.about.only r m in
      set_same
      (λ l w. (w.0.0, (record { of_the_list = q.0; unrejected = λ j. w.1.1 (rejected_among r.sign l r w.0.0 (c.sheets r m) q.1 refl j) }, w.0.1)))
      (λ l w. ((w.0, w.1.1), (w.0, λ z. w.1.0.unrejected (among_rejected r.sign l r (c.sheets r m) q.1 refl z))))
      (set_and bs (set_not small vs))

  -- the lanes in which the matter is a default
  pub default_lanes : (n w v : ℕ) → a < n → w < 2 ^ 64 → SetOf v (λ l. (l < 64) × (Among c.yes (2 ^ 32 - 1) l → ⊥)) → SetOf (bit_and w v) (λ l. Mem l w × Default Q n (X l) a)
  default_lanes n w v below small s = set_same
      (λ l h. (h.0, default_from n l h.1.0 below h.1.1))
      (λ l h. (h.0, (mem_below 64 w l small h.0, default_to n l h.1)))
      (set_and (set_own w) s)
