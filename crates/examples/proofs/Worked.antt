-- The worked examples hold: lists and models by computation.
use Rattle.std.proofs.Common.{ℕ, List, [], ◌∷◌, refl, arith}
use mathlib.Core.List.Memᴰ
use Rattle.rules.specs.declared.rule.Rule.{Rule}
use Rattle.rules.specs.Semantics.{LiteralSet, Overruling, Lists, Rests}
use Rattle.rules.proofs.Bitwise.{not_in_zero}
use Rattle.rules.proofs.Computed.{outcomes, outcomes_list}
use Rattle.kiosk.specs.declared.call.Call.{Call}
use Rattle.kiosk.specs.declared.call.Call.TheVariants.{Open, Fact, End}
use Rattle.kiosk.specs.Book.{Book}
use Rattle.kiosk.specs.Standing.{shown}
use Rattle.runs.specs.Running.{after}
use Rattle.rules.proofs.Rounds.{rests_by}
use Rattle.rules.proofs.Theory.{rests_well_founded}
use Rattle.orders.specs.Overrules.{by_position, by_grade, by_grade_then_position}
use Rattle.evaluator.specs.declared.answer.Reading.{Reading}
use Rattle.evaluator.specs.declared.answer.Reading.TheVariants.{Undefined, False, Contradictory}
use Rattle.evaluator.specs.Matters.{Reads, ReadingOf}
use Rattle.examples.specs.Examples.{Examples, denied_by_default, contradiction, contradiction_settled, either_or, denied_consequence, denied_consequence_tautology, granted_and_denied, no_way_out, denied_on_a_fact, granted}

read_of : {P : List Rule} {over : Overruling} {n k a : ℕ} {X : LiteralSet} (r : Reading) → Rests P over n k X → Reads X a r → ReadingOf P over n a r
read_of {X} r s h = record { model = X; well_founded = rests_well_founded s; reads = h }

either_or_list : Lists either_or by_position 2 (1 ∷ (2 ∷ []))
either_or_list = outcomes_list either_or by_position 2

no_way_out_list : Lists no_way_out by_position 1 []
no_way_out_list = outcomes_list no_way_out by_position 1

then : (b : Book) (calls : List Call) → Lists (shown (after b calls)).rules by_position (after b calls).matters (outcomes (shown (after b calls)).rules by_position (after b calls).matters)
then b calls = outcomes_list (shown (after b calls)).rules by_position (after b calls).matters

pub examples : Examples
examples = record {
  nothing_lists = outcomes_list [] by_position 1;
  nothing_reads = read_of False (rests_by [] by_position 1 1 refl) (not_in_zero 0, refl);
  nothing_rests = rests_by [] by_position 1 1 refl;
  denied_by_default_lists = outcomes_list denied_by_default by_position 1;
  contradiction_lists = outcomes_list contradiction by_position 1;
  contradiction_reads = read_of Contradictory (rests_by contradiction by_position 1 1 refl) (refl, refl);
  contradiction_rests = rests_by contradiction by_position 1 1 refl;
  contradiction_settled_lists = outcomes_list contradiction_settled by_position 1;
  either_or_lists = either_or_list;
  either_or_reads = read_of Undefined (rests_by either_or by_position 2 0 refl) (not_in_zero 0, not_in_zero 0);
  either_or_rests = rests_by either_or by_position 2 0 refl;
  either_or_rules = (
    record { outcome = 1; is_one = either_or_list.only 1 (Memᴰ.head refl); has = refl },
    record { outcome = 2; is_one = either_or_list.only 2 (Memᴰ.tail (Memᴰ.head refl)); lacks = λ h. absurd (omega (arith, h)) },
  );
  denied_consequence_lists = outcomes_list denied_consequence by_position 3;
  tautology_changes_nothing = outcomes_list denied_consequence_tautology by_position 3;
  later_denies = outcomes_list granted_and_denied by_position 1;
  higher_grade_grants = outcomes_list granted_and_denied (by_grade (2 ∷ (1 ∷ []))) 1;
  equal_grades_deadlock = outcomes_list granted_and_denied (by_grade (1 ∷ (1 ∷ []))) 1;
  equal_grades_then_position = outcomes_list granted_and_denied (by_grade_then_position (1 ∷ (1 ∷ []))) 1;
  no_way_out_lists = no_way_out_list;
  no_way_out_reads = read_of Undefined (rests_by no_way_out by_position 1 0 refl) (not_in_zero 0, not_in_zero 0);
  no_way_out_rules = ((λ w. Memᴰ.not-nil (no_way_out_list.all w.outcome w.is_one)), (λ w. Memᴰ.not-nil (no_way_out_list.all w.outcome w.is_one)));
  without_a_session = then denied_on_a_fact [];
  with_the_fact = then denied_on_a_fact (Open ∷ (Fact 1 1 ∷ []));
  after_the_end = then denied_on_a_fact (Open ∷ (Fact 1 1 ∷ (End ∷ [])));
  fact_overrules_the_sheet_below = then granted (Open ∷ (Fact 0 0 ∷ []));
  one_place_too_few = record { outcomes = 1 ∷ (2 ∷ []); listed = either_or_list; too_many = omega arith; lowest = refl };
}
