-- Own sheets on top of a rack keep to what every rack keeps to.
use Rattle.std.specs.Prelude.{◌≡◌, ℕ, ◌+◌, ◌<◌, ◌≤◌, Bool, true, false, cond, List, [], ◌∷◌, ◌++◌, map, length, take, ◌==◌, nat_le, nat_lt, slice_index_or, refl}
use Rattle.std.proofs.Common.{sym, ap, subst, ◌∙◌, arith}
use Rattle.std.specs.List.{AllByRecursion}
use Rattle.std.proofs.lemmas.List.{append_assoc, length-append, length-map, length-take-le, get_or-map, map_more}
use Rattle.std.proofs.ByRecursion.{All-append, All-map, All-weaker}
use Rattle.std.proofs.lemmas.Bool.{and_from, and_parts, eqb-true, eq-eqb, leb-true, le-leb}
use Rattle.rules.specs.declared.rule.Rule.{Rule}
use Rattle.rules.specs.declared.rule.Shape.{Shape}
use Rattle.rules.specs.Parts.{no_rule}
use Rattle.racks.specs.Meaning.{Meaning, Sound, Throughout, Rising, Kept, shaped}
use Rattle.racks.proofs.Listed.{rising_append}
use Rattle.racks.specs.Tables.{push_room}
use Rattle.racks.proofs.Laid.{all_of, throughout}
use Rattle.layers.specs.Over.{own_places, fits, raised, over, shape_over, amended}

-- what it is to fit

pub record Fit (below own : Shape) : Type 0 where
  pub same_matters : own.matters ≡ below.matters
  pub few_sheets : below.sheets + own.sheets ≤ 32
  pub few_rules : own.rules ≤ own_places below

pub fit_from : (x y : Shape) → fits x y ≡ true → Fit x y
fit_from x y h =
    let a = and_parts (y.matters == x.matters) _ h in
    let b = and_parts (nat_le (x.sheets + y.sheets) 32) _ a.1 in
    record { same_matters = eqb-true _ _ a.0; few_sheets = leb-true _ _ b.0; few_rules = leb-true _ _ b.1 }

pub fits_from : (x y : Shape) → Fit x y → fits x y ≡ true
fits_from x y f = and_from _ _ (eq-eqb _ _ f.same_matters) (and_from _ _ (le-leb _ _ f.few_sheets) (le-leb _ _ f.few_rules))

-- the joint list

pub length_over : (s : ℕ) (P Q : List Rule) → length (P ++ map (raised s) Q) ≡ length P + length Q
length_over s P Q = length-append P (map (raised s) Q) ∙ ap (λ (n : ℕ). length P + n) (length-map Q (raised s))

pub shaped_over : (b : Bool) (m o : Meaning) → shape_over b (shaped m) (shaped o) ≡ shaped (over b m o)
shaped_over false m o = refl
shaped_over true m o = let e = length_over m.sheets m.rules o.rules in ap (λ (k : ℕ). record { matters = m.matters; sheets = m.sheets + o.sheets; rules = k }) (sym e)

pub shaped_amended : (m o : Meaning) (x y z : Shape) → x ≡ shaped m → y ≡ shaped o → z ≡ shape_over (fits x y) x y → z ≡ shaped (amended m o)
shaped_amended m o x y z a b e = e ∙ ap (λ (w : Shape). shape_over (fits w y) w y) a ∙ ap (λ (w : Shape). shape_over (fits (shaped m) w) (shaped m) w) b ∙ shaped_over (fits (shaped m) (shaped o)) m o

-- what stands on top by the test of two shapes
module _ (m o : Meaning) (x y : Shape) (P : List Rule) (below : x ≡ shaped m) (own : y ≡ shaped o) where
  by_shapes : fits x y ≡ fits (shaped m) (shaped o)
  by_shapes = ap (λ (w : Shape). fits w y) below ∙ ap (fits (shaped m)) own

  pub rules_with_own : true ≡ fits x y → P ≡ m.rules ++ map (raised x.sheets) o.rules → P ≡ (amended m o).rules
  rules_with_own t e = e ∙ ap (λ (w : Shape). m.rules ++ map (raised w.sheets) o.rules) below ∙ ap (λ (b : Bool). (over b m o).rules) (t ∙ by_shapes)

  pub rules_without : false ≡ fits x y → P ≡ m.rules → P ≡ (amended m o).rules
  rules_without t e = e ∙ ap (λ (b : Bool). (over b m o).rules) (t ∙ by_shapes)

rising_raised : (s : ℕ) (Q : List Rule) → Rising Q → Rising (map (raised s) Q)
rising_raised s Q r i j ij jl =
    let n = length-map Q (raised s) in
    let il : i < length Q = omega arith in
    let jn : j < length Q = omega arith in
    let h = r i j ij jn in
    rw (get_or-map (raised s) Q i no_rule no_rule il, get_or-map (raised s) Q j no_rule no_rule jn) (omega arith)

pub over_kept : (b : Bool) (m o : Meaning) → Kept m → Kept o → fits (shaped m) (shaped o) ≡ b → Kept (over b m o)
over_kept false m o k h e = k
over_kept true m o k h e =
    let f = fit_from (shaped m) (shaped o) e in
    let n = m.matters in
    let s = m.sheets in
    let P = m.rules in
    let Q = o.rules in
    let l = length_over s P Q in
    let few = k.few_rules in
    let own = f.few_rules in
    let low : AllByRecursion (Sound n s) P = all_of (Sound n s) P k.sound in
    let high : AllByRecursion (Sound n o.sheets) Q = all_of (Sound n o.sheets) Q (subst (λ (j : ℕ). Throughout (Sound j o.sheets) Q) f.same_matters h.sound) in
    record {
      some_matters = k.some_matters;
      few_matters = k.few_matters;
      few_sheets = f.few_sheets;
      few_rules = omega arith;
      sound = throughout (Sound n (s + o.sheets)) _ (All-append (Sound n (s + o.sheets)) P (map (raised s) Q)
          (All-weaker (Sound n s) (Sound n (s + o.sheets)) (λ r t. (omega (arith, t.0), t.1, t.2, t.3)) P low)
          (All-map (Sound n (s + o.sheets)) (raised s) Q (All-weaker (Sound n o.sheets) (λ r. Sound n (s + o.sheets) (raised s r)) (λ r t. (omega (arith, t.0), t.1, t.2, t.3)) Q high)));
      rising = rising_append s P (map (raised s) Q) k.rising
          (All-weaker (Sound n s) (λ r. r.sheet ≤ s) (λ r t. omega (arith, t.0)) P low)
          (All-map (λ r. s ≤ r.sheet) (raised s) Q (All-weaker (Sound n o.sheets) (λ r. s ≤ s + r.sheet) (λ r t. omega arith) Q high))
          (rising_raised s Q h.rising);
    }

-- one own rule more of those to append
pub raised_more : (s i : ℕ) (P Q S T : List Rule) (b : Bool) → i < length Q → length P + length Q ≤ 256 → S ≡ P ++ map (raised s) (take i Q) → b ≡ nat_lt (length S) 256 → T ≡ cond b (S ++ (raised s (slice_index_or Q i no_rule) ∷ [])) S → T ≡ P ++ map (raised s) (take (i + 1) Q)
raised_more s i P Q S T b l room e v t =
    let x = raised s (slice_index_or Q i no_rule) in
    let n = ap length e ∙ length_over s P (take i Q) in
    let k = length-take-le i Q (omega arith) in
    push_room b S T x (omega arith) v t
    ∙ ap (λ (R : List Rule). R ++ (x ∷ [])) e
    ∙ append_assoc P (map (raised s) (take i Q)) (x ∷ [])
    ∙ ap (λ (R : List Rule). P ++ R) (sym (map_more (raised s) Q i no_rule l))
