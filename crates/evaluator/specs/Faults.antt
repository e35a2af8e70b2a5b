-- The numbers of the evaluator's refusals.
use Rattle.std.specs.Prelude.{ℕ}
use Rattle.evaluator.specs.declared.answer.EvaluatorFault.{EvaluatorFault}
use Rattle.evaluator.specs.declared.answer.EvaluatorFault.TheVariants.{NoMatter, TooManyOutcomes, TextTooLong}

abbrev pub fault_number : EvaluatorFault → ℕ
fault_number NoMatter = 13
fault_number TooManyOutcomes = 31
fault_number TextTooLong = 32
