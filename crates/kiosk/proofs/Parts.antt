-- What a kiosk shows, by its parts: the shape, the rule at each place, the rules read below and then on the slip.
use Rattle.std.specs.Prelude.{◌≡◌, ℕ, zero, suc, ◌+◌, ◌<◌, ◌≤◌, Bool, true, false, List, [], ◌∷◌, ◌++◌, map, length, take, Some, None, Option, slice_index_or, refl}
use Rattle.std.proofs.Common.{sym, ap, ◌∙◌, arith}
use Rattle.std.specs.List.{slice_get}
use Rattle.std.proofs.lemmas.Option.{slice_get_past}
use Rattle.std.proofs.lemmas.List.{take_more, map_push, append_assoc, length-take-le}
use Rattle.std.proofs.lemmas.Bool.{true≢false, false≢true}
use Rattle.rules.specs.declared.rule.Rule.{Rule}
use Rattle.rules.specs.declared.rule.Shape.{Shape}
use Rattle.racks.specs.Meaning.{Meaning, shaped}
use Rattle.kiosk.specs.declared.slip.Fact.{Fact}
use Rattle.kiosk.specs.Slip.{no_fact, fact_rule}
use Rattle.kiosk.specs.Standing.{topped, topped_shape}
use Rattle.kiosk.specs.Topped.{length_facts}

abbrev shape_by : ℕ → ℕ → ℕ → Shape
shape_by a s k = record { matters = a; sheets = s; rules = k }

nth_front : (xs ys : List Rule) (i : ℕ) → i < length xs → slice_get (xs ++ ys) i ≡ slice_get xs i
nth_front [] ys i h = absurd (omega arith)
nth_front (x ∷ xs) ys zero h = refl
nth_front (x ∷ xs) ys (suc i) h = nth_front xs ys i (omega arith)

nth_back : (xs ys : List Rule) (i k : ℕ) → length xs + k ≡ i → slice_get (xs ++ ys) i ≡ slice_get ys k
nth_back [] ys i k e = let z : i ≡ k = omega arith in rw z
nth_back (x ∷ xs) ys zero k e = absurd (omega arith)
nth_back (x ∷ xs) ys (suc i) k e = nth_back xs ys i k (omega arith)

abbrev pub ruled_fact : ℕ → Option Fact → Option Rule
ruled_fact s (Some f) = Some (fact_rule s f)
ruled_fact s None = None

nth_facts : (s : ℕ) (fs : List Fact) (i : ℕ) → slice_get (map (fact_rule s) fs) i ≡ ruled_fact s (slice_get fs i)
nth_facts s [] i = refl
nth_facts s (f ∷ fs) zero = refl
nth_facts s (f ∷ fs) (suc i) = nth_facts s fs i

pub topped_front : (b : Bool) (m : Meaning) (fs : List Fact) (i : ℕ) → i < length m.rules → slice_get m.rules i ≡ slice_get (topped b m fs).rules i
topped_front true m fs i h = sym (nth_front m.rules _ i h)
topped_front false m fs i h = refl

pub topped_none : (b : Bool) (m : Meaning) (fs : List Fact) (i : ℕ) → b ≡ false → length m.rules ≤ i → None ≡ slice_get (topped b m fs).rules i
topped_none true m fs i e h = absurd (true≢false e)
topped_none false m fs i e h = sym (slice_get_past m.rules i h)

pub topped_back : (b : Bool) (m : Meaning) (fs : List Fact) (i k : ℕ) (o : Option Fact) → b ≡ true → length m.rules + k ≡ i → o ≡ slice_get fs k → ruled_fact m.sheets o ≡ slice_get (topped b m fs).rules i
topped_back true m fs i k o e h q = ap (ruled_fact m.sheets) q ∙ sym (nth_back m.rules (map (fact_rule m.sheets) fs) i k h ∙ nth_facts m.sheets fs k)
topped_back false m fs i k o e h q = absurd (false≢true e)

-- the shape of what is shown
pub shaped_topped : (b : Bool) (m : Meaning) (fs : List Fact) → topped_shape b (shaped m) (length fs) ≡ shaped (topped b m fs)
shaped_topped false m fs = refl
shaped_topped true m fs = ap (shape_by m.matters (m.sheets + 1)) (sym (length_facts m.sheets m.rules fs))

-- and its rules, read below and then on the slip
pub read_topped : (b : Bool) (m : Meaning) (fs : List Fact) (P Q : List Rule) (s : ℕ) → b ≡ true → P ≡ m.rules → s ≡ m.sheets → Q ≡ P ++ map (fact_rule s) fs → Q ≡ (topped b m fs).rules
read_topped true m fs P Q s e p q h = cc
read_topped false m fs P Q s e p q h = absurd (false≢true e)

pub read_untopped : (b : Bool) (m : Meaning) (fs : List Fact) (P : List Rule) → b ≡ false → P ≡ m.rules → P ≡ (topped b m fs).rules
read_untopped true m fs P e p = absurd (true≢false e)
read_untopped false m fs P e p = p

-- one fact more on the table
pub facts_more : (s : ℕ) (P P0 Q : List Rule) (ys fs : List Fact) (i : ℕ) (x : Rule) → ys ≡ fs → i < length ys → x ≡ fact_rule s (slice_index_or ys i no_fact) → P ≡ P0 ++ map (fact_rule s) (take i fs) → Q ≡ P ++ (x ∷ []) → Q ≡ P0 ++ map (fact_rule s) (take (i + 1) fs)
facts_more s P P0 Q ys fs i x v l e p q =
    let t = take_more ys i no_fact l in
    let m = map_push (fact_rule s) (take i ys) (slice_index_or ys i no_fact) in
    let a = append_assoc P0 (map (fact_rule s) (take i ys)) (fact_rule s (slice_index_or ys i no_fact) ∷ []) in
    cc

pub facts_length : (s : ℕ) (P P0 : List Rule) (fs : List Fact) (i : ℕ) → i ≤ length fs → P ≡ P0 ++ map (fact_rule s) (take i fs) → length P ≡ length P0 + i
facts_length s P P0 fs i l e = ap length e ∙ length_facts s P0 (take i fs) ∙ ap (λ (k : ℕ). length P0 + k) (length-take-le i fs l)
