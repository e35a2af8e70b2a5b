-- A slip on a rack's meaning.
use Rattle.std.specs.Prelude.{◌≡◌, ℕ, ◌+◌, ◌-◌, ◌<◌, ◌≤◌, Bool, true, false, List, ◌++◌, map, length, get_or, slice_index_or, refl}
use Rattle.std.proofs.Common.{sym, ap, subst, ◌∙◌, ⊎_elim, arith, pow_pos}
use Rattle.std.proofs.lemmas.List.{length-append, length-map, get_or_append_left, get_or-append_right, get_or-map}
use Rattle.std.proofs.lemmas.Bool.{cases_lt}
use Rattle.rules.specs.declared.rule.Rule.{Rule}
use Rattle.racks.specs.Meaning.{Meaning, Kept, Sound}
use Rattle.rules.specs.Parts.{no_rule}
use Rattle.kiosk.specs.declared.slip.Fact.{Fact}
use Rattle.kiosk.specs.Slip.{Known, no_fact, fact_rule}
use Rattle.kiosk.specs.Standing.{topped}

pub length_facts : (s : ℕ) (xs : List Rule) (fs : List Fact) → length (xs ++ map (fact_rule s) fs) ≡ length xs + length fs
length_facts s xs fs = length-append xs (map (fact_rule s) fs) ∙ ap (λ (n : ℕ). length xs + n) (length-map fs (fact_rule s))

-- the rule at a place: below, or of the slip
at : (s : ℕ) (xs : List Rule) (fs : List Fact) (P : Rule → Type 0) (k : ℕ) → k < length xs + length fs → (k < length xs → P (slice_index_or xs k no_rule)) → ((j : ℕ) → j < length fs → length xs + j ≡ k → P (fact_rule s (slice_index_or fs j no_fact))) → P (slice_index_or (xs ++ map (fact_rule s) fs) k no_rule)
at s xs fs P k l below here =
    ⊎_elim (λ a. subst P (sym (get_or_append_left xs (map (fact_rule s) fs) no_rule k a)) (below a))
    (λ b. let j = k - length xs in let jl : k - length xs < length fs = omega arith in
    subst P (sym (get_or-append_right xs (map (fact_rule s) fs) (length xs) k no_rule refl b ∙ get_or-map (fact_rule s) fs j no_fact no_rule jl)) (here j jl (omega arith)))
    (cases_lt k (length xs))

pub topped_kept : (b : Bool) (m : Meaning) (n : ℕ) (fs : List Fact) → Kept m → (b ≡ true → (m.matters ≡ n) × (m.sheets < 32) × (length m.rules + length fs ≤ 256)) → Known n fs → Kept (topped b m fs)
topped_kept false m n fs f h k = f
topped_kept true m n fs f h k =
    let p = h refl in
    let xs = m.rules in
    let s = m.sheets in
    let e = length_facts s xs fs in
    record {
      some_matters = f.some_matters;
      few_matters = f.few_matters;
      few_sheets = omega (arith, p.1);
      few_rules = omega (arith, e, p.2);
      sound = λ i l. at s xs fs (Sound m.matters (s + 1)) i (omega (arith, e))
          (λ a. let t = f.sound i a in (omega (arith, t.0), t.1, t.2, t.3))
          (λ j jl q. (omega arith, omega (arith, p.0, k j jl), pow_pos m.matters, pow_pos m.matters));
      rising = λ i j ij jl. at s xs fs (λ y. y.sheet ≤ (get_or (xs ++ map (fact_rule s) fs) j no_rule).sheet) i (omega (arith, e))
          (λ a. at s xs fs (λ y. (get_or xs i no_rule).sheet ≤ y.sheet) j (omega (arith, e)) (λ b. f.rising i j ij b) (λ u ul q. omega (arith, (f.sound i a).0)))
          (λ u ul q. at s xs fs (λ y. s ≤ y.sheet) j (omega (arith, e)) (λ b. absurd (omega arith)) (λ v vl r. omega arith));
    }
