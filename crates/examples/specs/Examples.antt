-- Worked examples, in the notions that the contracts use. A sheet is in braces, the oldest first.
use Rattle.std.specs.Prelude.{ℕ, List, [], ◌∷◌, None}
use Rattle.rules.specs.declared.rule.Rule.{Rule}
use Rattle.rules.specs.declared.rule.Sign.{Sign}
use Rattle.rules.specs.declared.rule.Sign.TheVariants.{Yes, No}
use Rattle.rules.specs.Semantics.{Lists, Rests}
use Rattle.orders.specs.Overrules.{by_position, by_grade, by_grade_then_position}
use Rattle.evaluator.specs.declared.answer.Reading.TheVariants.{Undefined, False, Contradictory}
use Rattle.evaluator.specs.declared.answer.Ruling.TheVariants.{Varies, NoOutcome}
use Rattle.evaluator.specs.Answers.{Overfull}
use Rattle.evaluator.specs.Matters.{ReadingOf, RulingOf}
use Rattle.kiosk.specs.declared.call.Call.{Call}
use Rattle.kiosk.specs.declared.call.Call.TheVariants.{Open, Fact, End}
use Rattle.kiosk.specs.Book.{Book, Sheet, Clause}
use Rattle.kiosk.specs.Standing.{shown}
use Rattle.runs.specs.Running.{after}

-- a rule: its sheet, its head with the sign, and the yes set and the no set of its body
abbrev pub rule : ℕ → Sign → ℕ → ℕ → ℕ → Rule
rule s g h y n = record { sheet = s; head = h; sign = g; yes = y; no = n }

-- {0.} {no 0 if no 0.}
abbrev pub denied_by_default : List Rule
denied_by_default = rule 0 Yes 0 0 0 ∷ (rule 1 No 0 0 0b1 ∷ [])

-- {0. no 0.}
abbrev pub contradiction : List Rule
contradiction = rule 0 Yes 0 0 0 ∷ (rule 0 No 0 0 0 ∷ [])

-- {0. no 0.} {no 0.}
abbrev pub contradiction_settled : List Rule
contradiction_settled = rule 0 Yes 0 0 0 ∷ (rule 0 No 0 0 0 ∷ (rule 1 No 0 0 0 ∷ []))

-- {0 if no 1. 1 if no 0.}
abbrev pub either_or : List Rule
either_or = rule 0 Yes 0 0 0b10 ∷ (rule 0 Yes 1 0 0b01 ∷ [])

-- {0 if no 1. 1 if no 0. 2 if 1. no 2.}
abbrev pub denied_consequence : List Rule
denied_consequence = rule 0 Yes 0 0 0b10 ∷ (rule 0 Yes 1 0 0b01 ∷ (rule 0 Yes 2 0b10 0 ∷ (rule 0 No 2 0 0 ∷ [])))

-- the same and {2 if 2.}
abbrev pub denied_consequence_tautology : List Rule
denied_consequence_tautology = rule 0 Yes 0 0 0b10 ∷ (rule 0 Yes 1 0 0b01 ∷ (rule 0 Yes 2 0b10 0 ∷ (rule 0 No 2 0 0 ∷ (rule 1 Yes 2 0b100 0 ∷ []))))

-- {0.} {no 0.}
abbrev pub granted_and_denied : List Rule
granted_and_denied = rule 0 Yes 0 0 0 ∷ (rule 1 No 0 0 0 ∷ [])

-- {0 if no 0.}
abbrev pub no_way_out : List Rule
no_way_out = rule 0 Yes 0 0 0b1 ∷ []

-- Kiosks: the book at the set-up, and the calls since

abbrev pub clause : Sign → ℕ → ℕ → ℕ → Clause
clause g h y n = record { head = h; sign = g; yes = y; no = n }

abbrev pub book : ℕ → List Sheet → Book
book n sheets = record { matters = n; floor = 0; places = 64; sheets = sheets; slip = None }

-- {0.} {no 0 if 1.}
abbrev pub denied_on_a_fact : Book
denied_on_a_fact = book 2 ((clause Yes 0 0 0 ∷ []) ∷ ((clause No 0 0b10 0 ∷ []) ∷ []))

-- {0.}
abbrev pub granted : Book
granted = book 1 ((clause Yes 0 0 0 ∷ []) ∷ [])

-- the list of what the kiosk then shows
abbrev pub ListsThen : Book → List Call → List ℕ → Type 0
ListsThen b calls Ms = Lists (shown (after b calls)).rules by_position (after b calls).matters Ms

-- readings and rulings are of matter 0
pub record Examples : Type 0 where
  pub nothing_lists : Lists [] by_position 1 (0 ∷ [])
  pub nothing_reads : ReadingOf [] by_position 1 0 False
  pub nothing_rests : Rests [] by_position 1 1 (0, 1)
  pub denied_by_default_lists : Lists denied_by_default by_position 1 (1 ∷ [])
  pub contradiction_lists : Lists contradiction by_position 1 []
  pub contradiction_reads : ReadingOf contradiction by_position 1 0 Contradictory
  pub contradiction_rests : Rests contradiction by_position 1 1 (1, 1)
  pub contradiction_settled_lists : Lists contradiction_settled by_position 1 (0 ∷ [])
  pub either_or_lists : Lists either_or by_position 2 (1 ∷ (2 ∷ []))
  pub either_or_reads : ReadingOf either_or by_position 2 0 Undefined
  pub either_or_rests : Rests either_or by_position 2 0 (0, 0)
  pub either_or_rules : RulingOf either_or by_position 2 0 Varies
  pub denied_consequence_lists : Lists denied_consequence by_position 3 (1 ∷ [])
  pub tautology_changes_nothing : Lists denied_consequence_tautology by_position 3 (1 ∷ [])
  pub later_denies : Lists granted_and_denied by_position 1 (0 ∷ [])
  pub higher_grade_grants : Lists granted_and_denied (by_grade (2 ∷ (1 ∷ []))) 1 (1 ∷ [])
  pub equal_grades_deadlock : Lists granted_and_denied (by_grade (1 ∷ (1 ∷ []))) 1 []
  pub equal_grades_then_position : Lists granted_and_denied (by_grade_then_position (1 ∷ (1 ∷ []))) 1 (0 ∷ [])
  pub no_way_out_lists : Lists no_way_out by_position 1 []
  pub no_way_out_reads : ReadingOf no_way_out by_position 1 0 Undefined
  pub no_way_out_rules : RulingOf no_way_out by_position 1 0 NoOutcome
  -- a reader's fact counts while the session is open, and not after
  pub without_a_session : ListsThen denied_on_a_fact [] (1 ∷ [])
  pub with_the_fact : ListsThen denied_on_a_fact (Open ∷ (Fact 1 1 ∷ [])) (2 ∷ [])
  pub after_the_end : ListsThen denied_on_a_fact (Open ∷ (Fact 1 1 ∷ (End ∷ []))) (1 ∷ [])
  -- the slip is a sheet of its own, on top of the last
  pub fact_overrules_the_sheet_below : ListsThen granted (Open ∷ (Fact 0 0 ∷ [])) (0 ∷ [])
  -- with one list place
  pub one_place_too_few : Overfull either_or by_position 2 (1 ∷ [])
