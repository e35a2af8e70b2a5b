-- Claims: how a loop gathers them, and what they say of rejection and defaults.
use Rattle.std.proofs.Common.{◌≡◌, ℕ, ◌^◌, ◌<◌, ◌≤◌, ◌⊎◌, Bool, not, eqb, List, length, take, filter, get_or, set, Decides, sym, refl, ap, ◌∙◌, subst, inl, inr, ⊎_elim, arith, get_or-set_other, get_or-set_same}
use lib.Bits.{bit_and, bit_or}
use Rattle.std.proofs.lemmas.Bool.{cases_eq}
use Rattle.std.proofs.lemmas.Bool.Decides.{Decides-not, same_from_decides}
use Rattle.std.proofs.lemmas.List.{take_all}
use Rattle.std.proofs.lemmas.List.Filters.{length-filter_both}
use Rattle.rules.specs.declared.rule.Rule.{Rule}
use Rattle.rules.specs.declared.rule.Sign.{Sign}
use Rattle.rules.specs.declared.rule.Sign.TheVariants.{Yes, No}
use Rattle.rules.specs.Parts.{no_rule}
use Rattle.rules.specs.Semantics.{Mem, LiteralSet, ◌⊆◌, ◌∈◌, body, opposite, Overruling, Rejected, Survives}
use Rattle.rules.proofs.Bitwise.{mem_or_left, mem_or_right, mem_or_cases, mem_one, mem_one_is, not_in_zero}
use Rattle.rules.proofs.Computed.{placed, place_of, kept_mem, mem_kept}
use Rattle.rules.proofs.Literals.{yes≢no}
use Rattle.steps.specs.declared.claims.Claims.{Claims}
use Rattle.steps.specs.Claiming.{claimed, ClaimsBy, Claimed, Noted, Unclaimed, Against, Standing}
use Rattle.steps.specs.Parts.{Members, SetOf, Ready, Tabled}
use Rattle.steps.proofs.SetOfs.{set_same, empty_zero, decides_meet}

-- the row of a table with one sheet more
row : {r : Rule} {X : LiteralSet} (t u : List ℕ) (s : Sign) → u ≡ set t r.head (bit_or (get_or t r.head 0) (2 ^ r.sheet)) → r.sign ≡ s → body r ⊆ X → r.head < length t → (a : ℕ)
    → SetOf (get_or u a 0) (λ j. (Mem j (get_or t a 0)) ⊎ ClaimsBy r X s a j)
row {r} {X} t u s new e b l a =
    let old = get_or t r.head 0 in
    let one = 2 ^ r.sheet in
    ⊎_elim
    (λ q.
    let h : get_or u a 0 ≡ bit_or old one = ap (λ (v : List ℕ). get_or v a 0) new ∙ ap (λ (k : ℕ). get_or (set t r.head (bit_or old one)) k 0) q ∙ get_or-set_same t r.head (bit_or old one) 0 l in
    let p : get_or t a 0 ≡ old = ap (λ (k : ℕ). get_or t k 0) q in
    record {
      all = λ j. ⊎_elim
          (λ m. subst (Mem j) (sym h) (mem_or_left j old one (subst (Mem j) p m)))
          (λ w. subst (Mem j) (sym h) (mem_or_right j old one (subst (λ (k : ℕ). Mem k one) w.sheet_is (mem_one r.sheet))));
      only = λ j m. ⊎_elim
          (λ k. inl (subst (Mem j) (sym p) k))
          (λ k. inr (record { sign_is = e; head_is = sym q; sheet_is = sym (mem_one_is r.sheet j k); body_true = b }))
          (mem_or_cases j old one (subst (Mem j) h m));
    })
    (λ q.
    let h : get_or u a 0 ≡ get_or t a 0 = ap (λ (v : List ℕ). get_or v a 0) new ∙ get_or-set_other t r.head a (bit_or old one) 0 q in
    record {
      all = λ j. ⊎_elim (λ m. subst (Mem j) (sym h) m) (λ w. absurd (q (sym w.head_is)));
      only = λ j m. inl (subst (Mem j) h m);
    })
    (cases_eq a r.head)

-- the rule has another sign
other : {r : Rule} {X : LiteralSet} (t u : List ℕ) (s : Sign) → u ≡ t → (r.sign ≡ s → ⊥) → (a : ℕ) → SetOf (get_or u a 0) (λ j. (Mem j (get_or t a 0)) ⊎ ClaimsBy r X s a j)
other t u s e ne a =
    let h = ap (λ (v : List ℕ). get_or v a 0) e in
    record { all = λ j. ⊎_elim (λ m. subst (Mem j) (sym h) m) (λ w. absurd (ne w.sign_is)); only = λ j m. inl (subst (Mem j) h m) }

-- d has the claims of c, and that of sheet j to the literal
pub record Added (s : Sign) (a j : ℕ) (c d : Claims) : Type 0 where
  pub here : claimed s d ≡ set (claimed s c) a (bit_or (get_or (claimed s c) a 0) (2 ^ j))
  pub there : claimed (opposite s) d ≡ claimed (opposite s) c

pub noted_add : {r : Rule} {X : LiteralSet} {c d : Claims} (s : Sign) → r.sign ≡ s → body r ⊆ X → r.head < length (claimed s c) → Added s r.head r.sheet c d → Noted r X c d
noted_add {r} {X} {c} {d} Yes e b l n = record { each = elim [ Yes ↦ λ a _. row c.yes d.yes Yes n.here e b l a | No ↦ λ a _. other c.no d.no No n.there (λ q. yes≢no (sym e ∙ q)) a ] }
noted_add {r} {X} {c} {d} No e b l n = record { each = elim [ Yes ↦ λ a _. other c.yes d.yes Yes n.there (λ q. yes≢no (sym q ∙ e)) a | No ↦ λ a _. row c.no d.no No n.here e b l a ] }

-- the matters that no sheet claims are the defaults
pub unclaimed : {c : Claims} {n m : ℕ} → n ≤ 16 → SetOf m (λ a. (a < n) × (get_or c.yes a 0 ≡ 0)) → Unclaimed c n m
unclaimed {c} {n} few s P X claims = set_same
    (λ a w. record {
      a_matter = w.0;
      unaffirmed = λ r m f. let p = place_of P r no_rule m in
          not_in_zero r.sheet (subst (Mem r.sheet) w.1 ((claims.each Yes a (let u = w.0 in omega arith)).all r.sheet
          (p.0, p.1, subst (λ (q : Rule). ClaimsBy q X Yes a r.sheet) (sym p.2) (record { sign_is = f.sign_is; head_is = f.head_is; sheet_is = refl; body_true = f.body_true }))));
    })
    (λ a d. (
      d.a_matter,
      empty_zero (get_or c.yes a 0) (λ j m.
          let w = (claims.each Yes a (let u = d.a_matter in omega arith)).only j m in
          d.unaffirmed (get_or P w.0 no_rule) (placed P w.0 no_rule w.1) (record { sign_is = w.2.sign_is; head_is = w.2.head_is; body_true = w.2.body_true })),
    ))
    s

-- and a rule is rejected where an overruling sheet claims the opposite of its head
module _ {P : List Rule} {over : Overruling} {X : LiteralSet} {n : ℕ} {table : List ℕ} {c : Claims} (ready : Ready n P) (tabled : Tabled over table) (claims : Claimed P X c) where
  low : (r : Rule) → r ∈ P → r.head < 16
  low r m = let h = ready.formed r m in let k = ready.few_matters in omega arith

  against_rejected : (r : Rule) → r ∈ P → Against table c r → Rejected P over X r
  against_rejected r m w =
      let f = (claims.each (opposite r.sign) r.head (low r m)).only w.0 w.1 in
      let b = f.2 in
      record {
        rejecter = get_or P f.0 no_rule;
        of_the_list = placed P f.0 no_rule f.1;
        rejects = record {
          clash = (b.head_is, b.sign_is);
          body_true = b.body_true;
          overrules = ap (λ (j : ℕ). over j r.sheet) b.sheet_is ∙ ((tabled.each r.sheet (ready.low_sheets r m)).only w.0 w.2).1;
        };
      }

  rejected_against : (r : Rule) → r ∈ P → Rejected P over X r → Against table c r
  rejected_against r m j =
      let s = j.rejecter in
      let w = j.rejects in
      let p = place_of P s no_rule j.of_the_list in (
        s.sheet,
        (claims.each (opposite r.sign) r.head (low r m)).all s.sheet
            (p.0, p.1, subst (λ (q : Rule). ClaimsBy q X (opposite r.sign) r.head s.sheet) (sym p.2) (record { sign_is = w.clash.1; head_is = w.clash.0; sheet_is = refl; body_true = w.body_true })),
        (tabled.each r.sheet (ready.low_sheets r m)).all s.sheet (ready.low_sheets s j.of_the_list, w.overrules),
      )

  pub standing_survives : {Q : List Rule} → Members Q (Standing P table c) → Members Q (Survives P over X)
  standing_survives q = record {
    all = λ r v. q.all r (v.of_the_list, λ w. v.unrejected (against_rejected r v.of_the_list w));
    only = λ r i. let w = q.only r i in record { of_the_list = w.0; unrejected = λ j. w.1 (rejected_against r w.0 j) };
  }

-- whether it does, and the rules of which it does not, filtered into a table
pub against : List ℕ → Claims → Rule → Bool
against table c r = not (eqb (bit_and (get_or (claimed (opposite r.sign) c) r.head 0) (get_or table r.sheet 0)) 0)

decides_against : (table : List ℕ) (c : Claims) (r : Rule) → Decides (against table c r) (Against table c r)
unfolding against
decides_against table c r = decides_meet (get_or (claimed (opposite r.sign) c) r.head 0) (get_or table r.sheet 0)

pub told_against : (table : List ℕ) (c : Claims) (r : Rule) (b q : Bool) → b ≡ not q → Decides q (Against table c r) → b ≡ not (against table c r)
told_against table c r b q e d = e ∙ ap not (same_from_decides q (against table c r) d (decides_against table c r))

pub standing : {P R : List Rule} (table : List ℕ) (c : Claims) → length P ≤ 256 → R ≡ take 256 (filter (λ r. not (against table c r)) P) → Members R (Standing P table c)
standing {P} {R} table c few e =
    let p : Rule → Bool = λ r. not (against table c r) in
    let n = length-filter_both p (λ r. not (p r)) (λ _. refl) P in
    let whole : R ≡ filter p P = e ∙ take_all 256 (filter p P) (omega arith) in
    let d = λ (r : Rule). Decides-not (against table c r) (decides_against table c r) in
    record {
      all = λ r w. subst (λ (S : List Rule). r ∈ S) (sym whole) (kept_mem p r P w.0 ((d r).1 w.1));
      only = λ r m. let k = mem_kept p r P (subst (λ (S : List Rule). r ∈ S) whole m) in (k.0, (d r).0 k.1);
    }
