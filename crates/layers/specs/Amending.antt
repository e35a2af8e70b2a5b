-- The calls on own sheets are the calls on the pile.
use Rattle.std.specs.Prelude.{◌≡◌, ℕ, ◌+◌, ◌-◌, ◌<◌, ◌≤◌, Bool, true, false, cond, leb, List, [], ◌∷◌, ◌++◌, map, length, Some, None, Ok, Err, filter, Option, Result, nat_le, nat_lt, refl}
use Rattle.std.proofs.Common.{sym, ap, subst, ◌∙◌, ⊎_elim, arith}
use Rattle.std.specs.List.{AllByRecursion}
use Rattle.std.proofs.lemmas.List.{append-nil, append_assoc, length-map, length_push, map_push}
use Rattle.std.proofs.lemmas.List.Elements.{filter-append}
use Rattle.std.proofs.ByRecursion.{All-map, All-weaker}
use Rattle.std.proofs.lemmas.Bool.{cases_lt, leb-false, lt-leb, le-leb, lt-ltb, le-ltb, not_from_true}
use Rattle.rules.specs.declared.record.Record.{Record}
use Rattle.rules.specs.declared.rule.Rule.{Rule}
use Rattle.rules.specs.Records.{good, ruled}
use Rattle.rules.specs.Refusals.{first_met}
use Rattle.rules.proofs.Refusing.{met, unmet, none_met, none≢some}
use Rattle.racks.specs.Meaning.{Meaning, Sound, Kept, shaped}
use Rattle.laying.specs.declared.fault.RackFault.{RackFault}
use Rattle.laying.specs.declared.fault.RackFault.TheVariants.{PlacesFull}
use Rattle.laying.specs.Faults.{rack_number}
use Rattle.laying.specs.Laying.{Ground, ground, Grounded, under, used, below_floor, laid, withdrawn, over_again, lay_table, admit_table, withdraw_table, Lays, Withdraws}
use Rattle.racks.proofs.Chosen.{kept_all, kept_none, kept_fewer}
use Rattle.racks.proofs.Laid.{all_of}
use Rattle.laying.specs.Laid.{every, used_all}
use Rattle.laying.proofs.Answered.{lay_fine, lay_like}
use Rattle.layers.specs.Over.{own_places, fits, raised, over, amended, stood}
use Rattle.layers.specs.OverLemmas.{Fit, fit_from, fits_from}

-- own rules stand above the floor, and the rules below stand under it
module _ (m o : Meaning) (k : Kept m) where
  low : AllByRecursion (λ r. r.sheet < m.sheets) m.rules
  low = All-weaker (Sound m.matters m.sheets) (λ r. r.sheet < m.sheets) (λ r t. t.0) m.rules (all_of (Sound m.matters m.sheets) m.rules k.sound)

  none_above : filter (λ r. leb m.sheets r.sheet) m.rules ≡ []
  none_above = kept_none _ m.rules (All-weaker (λ (r : Rule). r.sheet < m.sheets) (λ r. nat_le m.sheets r.sheet ≡ false) (λ r h. lt-leb m.sheets r.sheet h) m.rules low)

  all_under : (t : ℕ) → m.sheets ≤ t → filter (under t) m.rules ≡ m.rules
  all_under t l = kept_all (under t) m.rules (All-weaker (λ (r : Rule). r.sheet < m.sheets) (λ r. under t r ≡ true) (λ r h. lt-ltb r.sheet t (omega arith)) m.rules low)

  pub over_used : used (over true m o) m.sheets ≡ length o.rules
  over_used =
      let s = m.sheets in
      let p : Rule → Bool = λ r. leb s r.sheet in
      let Q = map (raised s) o.rules in
      ap length (filter-append p m.rules Q
      ∙ ap (λ (P : List Rule). P ++ filter p Q) none_above
      ∙ kept_all p Q (All-map (λ r. p r ≡ true) (raised s) o.rules (every _ o.rules (λ r. le-leb s (s + r.sheet) (omega arith)))))
      ∙ length-map o.rules (raised s)

  over_below : below_floor (over true m o) m.sheets ≡ length m.rules
  over_below =
      let s = m.sheets in
      let Q = map (raised s) o.rules in
      ap length (filter-append (under s) m.rules Q
      ∙ ap (λ (R : List Rule). filter (under s) m.rules ++ R) (kept_none (under s) Q (All-map (λ r. under s r ≡ false) (raised s) o.rules (every _ o.rules (λ r. le-ltb (s + r.sheet) s (omega arith)))))
      ∙ append-nil (filter (under s) m.rules)
      ∙ all_under s (omega arith))

  pub over_grounded : (b : Bool) → fits (shaped m) (shaped o) ≡ b → Grounded (ground (over b m o) m.sheets (own_places (shaped m)))
  over_grounded true e =
      let f = fit_from (shaped m) (shaped o) e in
      let own = f.few_rules in
      let few = k.few_rules in
      let u = over_used in
      let b = over_below in
      record { floored = omega arith; housed = omega arith; bounded = omega arith }
  over_grounded false e =
      let few = k.few_rules in
      let u = ap length none_above in
      let b = ap length (all_under m.sheets (omega arith)) in
      record { floored = omega arith; housed = omega arith; bounded = omega arith }

  -- what each call makes of the own sheets, it makes of the pile

  over_laid : (x : Record) → 0 < o.sheets → over true m (laid o x) ≡ laid (over true m o) x
  over_laid x l =
      let s : m.sheets + (o.sheets - 1) ≡ m.sheets + o.sheets - 1 = omega arith in
      let P = m.rules in
      let f = raised m.sheets in
      let y = ruled (o.sheets - 1) x in
      let e : P ++ map f (o.rules ++ (y ∷ [])) ≡ (P ++ map f o.rules) ++ (ruled (m.sheets + o.sheets - 1) x ∷ []) =
      ap (λ (R : List Rule). P ++ R) (map_push f o.rules y)
      ∙ sym (append_assoc P (map f o.rules) (f y ∷ []))
      ∙ ap (λ (n : ℕ). (P ++ map f o.rules) ++ (ruled n x ∷ [])) s in
      ap (λ (R : List Rule). record { matters = m.matters; sheets = m.sheets + o.sheets; rules = R }) e

kept_raised : (s t : ℕ) (Q : List Rule) → filter (under (s + t)) (map (raised s) Q) ≡ map (raised s) (filter (under t) Q)
kept_raised s t [] = refl
kept_raised s t (y ∷ Q) =
    let r = kept_raised s t Q in
    ⊎_elim
    (λ h. let a : nat_lt (s + y.sheet) (s + t) ≡ true = lt-ltb (s + y.sheet) (s + t) (omega arith) in let b : nat_lt y.sheet t ≡ true = lt-ltb y.sheet t h in rw (a, b) (ap (λ (R : List Rule). raised s y ∷ R) r))
    (λ h. let a : nat_lt (s + y.sheet) (s + t) ≡ false = le-ltb (s + y.sheet) (s + t) (omega arith) in let b : nat_lt y.sheet t ≡ false = le-ltb y.sheet t h in rw (a, b) r)
    (cases_lt y.sheet t)

over_withdrawn : (m o : Meaning) → Kept m → 0 < o.sheets → over true m (withdrawn o) ≡ withdrawn (over true m o)
over_withdrawn m o k l =
    let s : m.sheets + (o.sheets - 1) ≡ m.sheets + o.sheets - 1 = omega arith in
    let t = o.sheets - 1 in
    let P = m.rules in
    let Q = map (raised m.sheets) o.rules in
    let e : P ++ map (raised m.sheets) (filter (under t) o.rules) ≡ filter (under (m.sheets + t)) (P ++ Q) =
    sym (filter-append (under (m.sheets + t)) P Q
    ∙ ap (λ (R : List Rule). R ++ filter (under (m.sheets + t)) Q) (all_under m o k (m.sheets + t) (omega arith))
    ∙ ap (λ (R : List Rule). P ++ R) (kept_raised m.sheets t o.rules)) in
    ap (λ (R : List Rule). record { matters = m.matters; sheets = m.sheets + t; rules = R }) e
    ∙ ap (λ (n : ℕ). record { matters = m.matters; sheets = n; rules = filter (under n) (P ++ Q) }) s

-- The calls

-- no own sheet stands on the floor
on_floor : (a b : ℕ) → nat_le (a + b) a ≡ nat_le b 0
on_floor a b =
    ⊎_elim
    (λ h. let p = lt-leb (a + b) a (omega arith) in let q = lt-leb b 0 h in cc)
    (λ h. let p = le-leb (a + b) a (omega arith) in let q = le-leb b 0 h in cc)
    (cases_lt 0 b)

same_test : (a b : ℕ) → cond {A = Option ℕ} (nat_le (a + b) a) (Some 12) None ≡ cond (nat_le b 0) (Some 12) None
same_test a b = ap (λ (t : Bool). cond {A = Option ℕ} t (Some 12) None) (on_floor a b)

-- a fact of own sheets that fit holds of those that stand
at_fit : (m o : Meaning) (P : Ground → Type 0) → fits (shaped m) (shaped o) ≡ true → P (ground (over true m o) m.sheets (own_places (shaped m))) → P (stood m o)
at_fit m o P e h = subst (λ (b : Bool). P (ground (over b m o) m.sheets (own_places (shaped m)))) (sym e) h

stood_next : (m o p : Meaning) (F : Meaning → Meaning) → fits (shaped m) (shaped o) ≡ true → p ≡ F o → Fit (shaped m) (shaped p) → over true m (F o) ≡ F (over true m o) → stood m p ≡ over_again (stood m o) (F (amended m o))
stood_next m o p F e q f same =
    let on : Meaning → Ground = λ y. ground y m.sheets (own_places (shaped m)) in
    ap (λ (b : Bool). on (over b m p)) (fits_from (shaped m) (shaped p) f)
    ∙ ap (λ (y : Meaning). on (over true m y)) q
    ∙ ap on same
    ∙ ap (λ (b : Bool). on (F (over b m o))) (sym e)

module _ (m o p : Meaning) (k : Kept m) (e : fits (shaped m) (shaped o) ≡ true) where
  pub lay_over : (x : Record) (r : Result (Unit {0}) RackFault) → 0 < o.sheets → good m.matters x ≡ true → length o.rules < own_places (shaped m) → Lays (ground o 0 64) x r (ground p 0 64) → Lays (stood m o) x r (stood m p)
  lay_over x (Ok u) s t l q =
      let f = fit_from (shaped m) (shaped o) e in
      let pe : p ≡ laid o x = ap (λ (g : Ground). g.meaning) q.1 in
      let a = ap (λ (y : Meaning). y.matters) pe ∙ f.same_matters in
      let b = ap (λ (y : Meaning). y.sheets) pe in
      let c = ap (λ (y : Meaning). length y.rules) pe ∙ length_push o.rules (ruled (o.sheets - 1) x) in
      let n = f.few_sheets in
      let v = over_used m o k in (
        at_fit m o (λ g. first_met (lay_table g x) ≡ None) e (lay_fine (ground (over true m o) m.sheets (own_places (shaped m))) x (omega arith) t (omega arith)),
        stood_next m o p (λ y. laid y x) e pe (record { same_matters = a; few_sheets = omega arith; few_rules = omega arith }) (over_laid m o k x s),
      )
  lay_over x (Err f) s t l q =
      let h = (fit_from (shaped m) (shaped o) e).same_matters in
      let v = used_all o in
      absurd (none≢some (lay_fine (ground o 0 64) x s (subst (λ (n : ℕ). good n x ≡ true) (sym h) t) (omega arith)) q.0)

  pub withdraw_over : (r : Result (Unit {0}) RackFault) → Withdraws (ground o 0 64) r (ground p 0 64) → Withdraws (stood m o) r (stood m p)
  withdraw_over (Ok u) q =
      let f = fit_from (shaped m) (shaped o) e in
      let s : 0 < o.sheets = leb-false o.sheets 0 (none_met 12 (nat_le o.sheets 0) None q.0).0 in
      let pe : p ≡ withdrawn o = ap (λ (g : Ground). g.meaning) q.1 in
      let a = ap (λ (y : Meaning). y.matters) pe ∙ f.same_matters in
      let b = ap (λ (y : Meaning). y.sheets) pe in
      let c = ap (λ (y : Meaning). length y.rules) pe in
      let d = kept_fewer (under (o.sheets - 1)) o.rules in
      let n = f.few_sheets in
      let l = f.few_rules in (
        at_fit m o (λ g. first_met (withdraw_table g) ≡ None) e (unmet 12 None (lt-leb (m.sheets + o.sheets) m.sheets (omega arith)) refl),
        stood_next m o p withdrawn e pe (record { same_matters = a; few_sheets = omega arith; few_rules = omega arith }) (over_withdrawn m o k s),
      )
  withdraw_over (Err f) q =
      let pe : p ≡ o = ap (λ (g : Ground). g.meaning) q.1 in
      (at_fit m o (λ g. first_met (withdraw_table g) ≡ Some (rack_number f)) e (same_test m.sheets o.sheets ∙ q.0), ap (stood m) pe)

-- what is refused on the own sheets is refused on the pile
pub refused_over : (m o : Meaning) → Kept m → fits (shaped m) (shaped o) ≡ true → (x : Record) (f : RackFault) → first_met (admit_table (shaped o) (own_places (shaped m)) x) ≡ Some (rack_number f) → Lays {U = Unit {0}} (stood m o) x (Err f) (stood m o)
refused_over m o k e x f h =
    let g = ground (over true m o) m.sheets (own_places (shaped m)) in
    let same = lay_like g x (shaped o) (on_floor m.sheets o.sheets) (sym (fit_from (shaped m) (shaped o) e).same_matters) (over_used m o k) in
    (at_fit m o (λ g. first_met (lay_table g x) ≡ Some (rack_number f)) e (same ∙ h), refl)

-- a good rule for which there is no place
module _ (m o : Meaning) (k : Kept m) (e : fits (shaped m) (shaped o) ≡ true) where
  pub full_refused : (x : Record) → 0 < o.sheets → good m.matters x ≡ true → own_places (shaped m) ≤ length o.rules → Lays {U = Unit {0}} (stood m o) x (Err PlacesFull) (stood m o)
  full_refused x l b u =
      let h = (fit_from (shaped m) (shaped o) e).same_matters in
      refused_over m o k e x PlacesFull (unmet 12 _ (lt-leb o.sheets 0 l) (unmet 13 _ (not_from_true _ (subst (λ (n : ℕ). good n x ≡ true) (sym h) b)) (met 14 _ (le-leb (own_places (shaped m)) (length o.rules) u))))
