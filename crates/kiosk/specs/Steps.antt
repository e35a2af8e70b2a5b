-- From what a rack's call says to the book's step.
use Rattle.std.specs.Prelude.{◌≡◌, ℕ, ◌+◌, ◌-◌, ◌^◌, ◌<◌, ◌≤◌, Bool, true, false, cond, not, ◌&&◌, leb, List, [], ◌∷◌, ◌++◌, length, drop, Some, None, Ok, Err, Option, Result, ◌==◌, nat_le, nat_lt, refl}
use Rattle.std.proofs.Common.{sym, ap, ◌∙◌, ⊎_elim, arith, pow_pos}
use Rattle.std.proofs.lemmas.Bool.{lt-ltb, eq-eqb, le-leb, lt-leb, and_from, and_parts, eqb-true, ltb-true, leb-true, true≢false, false≢true}
use Rattle.rules.specs.declared.record.Record.{Record}
use Rattle.rules.specs.declared.rule.Shape.{Shape}
use Rattle.rules.specs.Records.{good, ruled, signed}
use Rattle.rules.specs.Refusals.{first_met, Judged}
use Rattle.rules.proofs.Refusing.{none_met, one_met}
use Rattle.racks.specs.Meaning.{Meaning, Kept, shaped}
use Rattle.laying.specs.declared.fault.RackFault.{RackFault}
use Rattle.laying.specs.declared.fault.RackFault.TheVariants.{Matters, TooManySheets, NoSheet, BadRule, PlacesFull}
use Rattle.laying.specs.Faults.{rack_number}
use Rattle.laying.specs.Laying.{Ground, used, Begins, Lays, Withdraws}
use Rattle.kiosk.specs.declared.call.Call.{Call}
use Rattle.kiosk.specs.declared.call.Call.TheVariants.{Begin, Lay, Withdraw, Open, Fact as Stating}
use Rattle.kiosk.specs.declared.fault.KioskFault.{KioskFault}
use Rattle.kiosk.specs.declared.fault.KioskFault.TheVariants.{Rack, NoRoom, BadFact, RulesFull}
use Rattle.kiosk.specs.declared.slip.Fact.{Fact}
use Rattle.kiosk.specs.Slip.{Finds, re_signed}
use Rattle.kiosk.specs.Book.{Book, Stepped, Table, judged, step, written, Does, total, with_sheets}
use Rattle.kiosk.specs.Standing.{booked, sheets_of, slip_of, seated}
use Rattle.kiosk.specs.Facts.{not_named, named, noted_found, noted_new}
use Rattle.kiosk.specs.Sheets.{length_sheets, sheets_begun, sheets_laid, sheets_withdrawn, used_sheets, total_sheets}

-- Refusals of the rack below

-- the number of a rack's refusal tells which it is
by_number : ℕ → RackFault
by_number k = cond (k == 3) Matters (cond (k == 11) TooManySheets (cond (k == 12) NoSheet (cond (k == 13) BadRule PlacesFull)))

numbered_back : (f : RackFault) → by_number (rack_number f) ≡ f
unfolding by_number
numbered_back Matters = refl
numbered_back TooManySheets = refl
numbered_back NoSheet = refl
numbered_back BadRule = refl
numbered_back PlacesFull = refl

same_fault : (e f : RackFault) → rack_number e ≡ rack_number f → e ≡ f
same_fault e f q = sym (numbered_back e) ∙ ap by_number q ∙ numbered_back f

-- a rack's conditions, with its refusals: by their numbers, and as a kiosk passes them on
abbrev RackTable : Type 0
RackTable = List (RackFault × Bool)

abbrev numbers : RackTable → List (ℕ × Bool)
numbers [] = []
numbers (c ∷ cs) = (rack_number c.0, c.1) ∷ numbers cs

abbrev passed : RackTable → Table
passed [] = []
passed (c ∷ cs) = (Rack c.0, c.1) ∷ passed cs

abbrev pub lifted : Result (Unit {0}) RackFault → Result (Unit {0}) KioskFault
lifted (Ok u) = Ok tt
lifted (Err e) = Err (Rack e)

done : (t : RackTable) (old new : Book) → first_met (numbers t) ≡ None → Does (judged (passed t) old new) (Ok tt) new
done [] old new h = (refl, refl)
done (c ∷ cs) old new h = let n = none_met (rack_number c.0) c.1 _ h in rw n.0 (done cs old new n.1)

refused : (t : RackTable) (old new : Book) (f : RackFault) → first_met (numbers t) ≡ Some (rack_number f) → Does (judged (passed t) old new) (Err (Rack f)) old
refused [] old new f h = let z : ◌≡◌ {A = ℕ} 0 1 = cc in absurd (omega arith)
refused (c ∷ cs) old new f h = ⊎_elim
    (λ m. let e = same_fault c.0 f m.1 in rw (m.0, e) (refl, refl))
    (λ m. rw m.0 (refused cs old new f m.1))
    (one_met (rack_number c.0) (rack_number f) c.1 _ h)

-- what the rack did, the book's step does
passes : (t : RackTable) (old new k : Book) (s : Stepped) (r : Result (Unit {0}) RackFault) (P Q : Type 0) → s ≡ judged (passed t) old new → (P → k ≡ new) → (Q → k ≡ old) → Judged rack_number (numbers t) (λ _. P) Q r → Does s (lifted r) k
passes t old new k s (Ok u) P Q e p q j =
    let d = done t old new j.0 in
    (d.0 ∙ sym (ap (λ (x : Stepped). x.answer) e), p j.1 ∙ d.1 ∙ sym (ap (λ (x : Stepped). x.book) e))
passes t old new k s (Err f) P Q e p q j =
    let d = refused t old new f j.0 in
    (d.0 ∙ sym (ap (λ (x : Stepped). x.answer) e), q j.1 ∙ d.1 ∙ sym (ap (λ (x : Stepped). x.book) e))

module _ (g h : Ground) (kept : Kept g.meaning) where
  abbrev same : h ≡ g → booked h None ≡ booked g None
  same e = ap (λ (k : Ground). booked k None) e

  pub begin_steps : (r : Result (Unit {0}) RackFault) → Begins g r h → Does (step (booked g None) Begin) (lifted r) (booked h None)
  begin_steps r b =
      let n = g.meaning.sheets in
      let P = g.meaning.rules in
      let old = booked g None in
      let new = written old Begin in
      passes ((TooManySheets, nat_le 32 n) ∷ []) old new (booked h None) (step old Begin) r _ _
      (ap (λ (k : ℕ). judged (passed ((TooManySheets, nat_le 32 k) ∷ [])) old new) (length_sheets n P))
      (λ e. ap (λ (k : Ground). booked k None) e ∙ ap (with_sheets old) (sheets_begun n P (λ k l. (kept.sound k l).0)))
      same b

  pub lay_steps : (x : Record) (r : Result (Unit {0}) RackFault) → Lays g x r h → Does (step (booked g None) (Lay x)) (lifted r) (booked h None)
  lay_steps x r b =
      let n = g.meaning.sheets in
      let P = g.meaning.rules in
      let old = booked g None in
      let new = written old (Lay x) in
      let t : ℕ → ℕ → RackTable = λ k u. (NoSheet, nat_le k g.floor) ∷ ((BadRule, not (good g.meaning.matters x)) ∷ ((PlacesFull, nat_le g.places u) ∷ [])) in
      passes (t n (used g.meaning g.floor)) old new (booked h None) (step old (Lay x)) r _ _
      (ap (λ (k : ℕ). judged (passed (t k (total (drop g.floor (sheets_of n P))))) old new) (length_sheets n P)
      ∙ ap (λ (u : ℕ). judged (passed (t n u)) old new) (used_sheets g.floor n P (λ k l. (kept.sound k l).0)))
      (λ e. ap (λ (k : Ground). booked k None) e ∙ ap (with_sheets old) (sheets_laid n P (ruled (n - 1) x) refl))
      same b

  pub withdraw_steps : (r : Result (Unit {0}) RackFault) → Withdraws g r h → Does (step (booked g None) Withdraw) (lifted r) (booked h None)
  withdraw_steps r b =
      let n = g.meaning.sheets in
      let P = g.meaning.rules in
      let old = booked g None in
      let new = written old Withdraw in
      passes ((NoSheet, nat_le n g.floor) ∷ []) old new (booked h None) (step old Withdraw) r _ _
      (ap (λ (k : ℕ). judged (passed ((NoSheet, nat_le k g.floor) ∷ [])) old new) (length_sheets n P))
      (λ e. ap (λ (k : Ground). booked k None) e ∙ ap (with_sheets old) (sheets_withdrawn n P))
      same b

-- Sessions

-- no session: the book has no slip
pub unseated : (C : Call) (b : Bool) (fs : List Fact) (g : Ground) (r : Result (Unit {0}) KioskFault) (k : Book) → b ≡ false → Does (step (booked g None) C) r k → Does (step (booked g (slip_of b fs)) C) r k
unseated C true fs g r k e d = absurd (true≢false e)
unseated C false fs g r k e d = d

-- a test of the shape below is one of what the rack below stands for
pub seated_is : {v : Bool} (w : Bool) {below : Shape} (m : Meaning) (o : Option ℕ) (fs : List Fact) → below ≡ shaped m → v ≡ seated below o fs → v ≡ w → seated (shaped m) o fs ≡ w
seated_is w m o fs q h e = sym (h ∙ ap (λ (x : Shape). seated x o fs) q) ∙ e

pub seated_from : (m : Meaning) (o : Option ℕ) (fs : List Fact) → o ≡ Some m.matters → m.sheets < 32 → length m.rules + length fs ≤ 256 → seated (shaped m) o fs ≡ true
seated_from m o fs e l s = rw e (and_from _ _ (eq-eqb m.matters m.matters refl) (and_from _ _ (lt-ltb _ _ l) (le-leb _ _ s)))

pub seated_parts : (m : Meaning) (o : Option ℕ) (fs : List Fact) → seated (shaped m) o fs ≡ true → (o ≡ Some m.matters) × (m.sheets < 32) × (length m.rules + length fs ≤ 256)
seated_parts m None fs h = absurd (false≢true h)
seated_parts m (Some n) fs h =
    let b = and_parts (m.matters == n) _ h in
    let c = and_parts (nat_lt m.sheets 32) (nat_le (length m.rules + length fs) 256) b.1 in
    (ap Some (sym (eqb-true _ _ b.0)), ltb-true _ _ c.0, leb-true _ _ c.1)

pub open_full : (g : Ground) (b : Bool) (fs : List Fact) → b ≡ false → 32 ≤ g.meaning.sheets → Does (step (booked g (slip_of b fs)) Open) (Err NoRoom) (booked g (slip_of b fs))
open_full g true fs e h = absurd (true≢false e)
open_full g false fs e h =
    let n = g.meaning.sheets in
    let t : leb 32 (length (sheets_of n g.meaning.rules)) ≡ true = le-leb _ _ (omega (arith, length_sheets n g.meaning.rules)) in
    rw t (refl, refl)

pub open_done : (g : Ground) (b : Bool) (fs : List Fact) → b ≡ false → g.meaning.sheets < 32 → (t : Bool) (es : List Fact) → t ≡ true → es ≡ [] → Does (step (booked g (slip_of b fs)) Open) (Ok tt) (booked g (slip_of t es))
open_done g true fs e h t es te ee = absurd (true≢false e)
open_done g false fs e h false es te ee = absurd (false≢true te)
open_done g false fs e h true es te ee =
    let n = g.meaning.sheets in
    let t : leb 32 (length (sheets_of n g.meaning.rules)) ≡ false = lt-leb _ _ (omega (arith, length_sheets n g.meaning.rules)) in
    rw t (refl, ap (λ (ys : List Fact). booked g (Some ys)) ee)

-- Facts

-- a fact is a record with an empty body
abbrev pub fact_record : ℕ → ℕ → Record
fact_record a s = record { head = a; sign = s; yes = 0; no = 0 }

good_fact : (n a s : ℕ) → good n (fact_record a s) ≡ (nat_lt a n && nat_le s 1)
good_fact n a s = let p = lt-ltb 0 (2 ^ n) (pow_pos n) in rw p (go (nat_lt a n) (nat_le s 1))
  where
    go : (b c : Bool) → (b && (c && (true && true))) ≡ (b && c)
    go true true = refl
    go true false = refl
    go false c = refl

pub sound_fact : (n a s : ℕ) → good n (fact_record a s) ≡ true → a < n
sound_fact n a s h = ltb-true a n (and_parts (nat_lt a n) _ h).0

module _ (g : Ground) (b : Bool) (fs : List Fact) (a s : ℕ) (kept : Kept g.meaning) where
  pub fact_bad : b ≡ true → good g.meaning.matters (fact_record a s) ≡ false → Does (step (booked g (slip_of b fs)) (Stating a s)) (Err BadFact) (booked g (slip_of b fs))
  fact_bad e h = elim b as (λ c. c ≡ true → Does (step (booked g (slip_of c fs)) (Stating a s)) (Err BadFact) (booked g (slip_of c fs))) [
    | true ↦ λ _. let q = sym (good_fact g.meaning.matters a s) ∙ h in rw q (refl, refl)
    | false ↦ λ z. absurd (false≢true z)
  ] e

  pub fact_found : (i : ℕ) → b ≡ true → good g.meaning.matters (fact_record a s) ≡ true → Finds fs a (Some i) → (t : Bool) (es : List Fact) → t ≡ true → es ≡ re_signed fs i (signed s) → Does (step (booked g (slip_of b fs)) (Stating a s)) (Ok tt) (booked g (slip_of t es))
  fact_found i e h f t es te ee =
      let q = sym (good_fact g.meaning.matters a s) ∙ h in
      let m = named fs a i f in
      rw (e, te) (rw (q, m) (refl, ap (λ (ys : List Fact). booked g (Some ys)) (ee ∙ sym (noted_found fs a i (signed s) f))))

  pub fact_full : b ≡ true → good g.meaning.matters (fact_record a s) ≡ true → Finds fs a None → 256 ≤ length g.meaning.rules + length fs → Does (step (booked g (slip_of b fs)) (Stating a s)) (Err RulesFull) (booked g (slip_of b fs))
  fact_full e h f l =
      let n = g.meaning.sheets in
      let P = g.meaning.rules in
      let q = sym (good_fact g.meaning.matters a s) ∙ h in
      let m = not_named fs a f in
      let t : leb 256 (total (sheets_of n P) + length fs) ≡ true = le-leb _ _ (omega (arith, total_sheets n P (λ i j. (kept.sound i j).0))) in
      rw e (rw (q, m, t) (refl, refl))

  pub fact_added : b ≡ true → good g.meaning.matters (fact_record a s) ≡ true → Finds fs a None → length g.meaning.rules + length fs < 256 → (t : Bool) (es : List Fact) → t ≡ true → es ≡ fs ++ (record { matter = a; sign = signed s } ∷ []) → Does (step (booked g (slip_of b fs)) (Stating a s)) (Ok tt) (booked g (slip_of t es))
  fact_added e h f l t es te ee =
      let n = g.meaning.sheets in
      let P = g.meaning.rules in
      let q = sym (good_fact g.meaning.matters a s) ∙ h in
      let m = not_named fs a f in
      let u : leb 256 (total (sheets_of n P) + length fs) ≡ false = lt-leb _ _ (omega (arith, total_sheets n P (λ i j. (kept.sound i j).0))) in
      rw (e, te) (rw (q, m, u) (refl, ap (λ (ys : List Fact). booked g (Some ys)) (ee ∙ sym (noted_new fs a (signed s) f))))
