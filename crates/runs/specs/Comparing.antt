-- Two books that differ only in tautologies.
use Rattle.std.specs.Prelude.{◌≡◌, ℕ, Bool, not, map, Some, None, Ok, Err, filter, Option, Result}
use Rattle.rules.specs.Semantics.{holds}
use Rattle.evaluator.specs.declared.answer.EvaluatorFault.{EvaluatorFault}
use Rattle.kiosk.specs.Book.{Book, Sheet, Clause}
use Rattle.kiosk.specs.Standing.{all_sheets}

-- the head literal stands in the clause's own body
abbrev pub tautology : Clause → Bool
tautology x = holds (x.yes, x.no) x.sign x.head

abbrev pub without_tautologies : Sheet → Sheet
without_tautologies s = filter (λ x. not (tautology x)) s

-- as many matters and as many sheets, the slip being one, and sheet by sheet the same rules in the same order, but for tautologies
pub record SameButTautologies (b c : Book) : Type 0 where
  pub matters : b.matters ≡ c.matters
  pub sheets : map without_tautologies (all_sheets b) ≡ map without_tautologies (all_sheets c)

-- how many outcomes were listed, where the list had places enough
abbrev pub counted : Result ℕ EvaluatorFault → Option ℕ
counted (Ok k) = Some k
counted (Err f) = None

abbrev pub listed_count : {T E : Type 0} → Result (T × Result ℕ EvaluatorFault) E → Option ℕ
listed_count (Ok k) = counted k.1
listed_count (Err e) = None
