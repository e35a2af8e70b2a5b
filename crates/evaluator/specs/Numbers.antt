-- The numbers of readings and rulings.
use Rattle.std.specs.Prelude.{ℕ}
use Rattle.evaluator.specs.declared.answer.Reading.{Reading}
use Rattle.evaluator.specs.declared.answer.Reading.TheVariants.{Undefined, True, False, Contradictory}
use Rattle.evaluator.specs.declared.answer.Ruling.{Ruling}
use Rattle.evaluator.specs.declared.answer.Ruling.TheVariants.{Always, Never, Varies, NoOutcome}

abbrev pub reading_number : Reading → ℕ
reading_number Undefined = 0
reading_number True = 1
reading_number False = 2
reading_number Contradictory = 3

abbrev pub ruling_number : Ruling → ℕ
ruling_number Always = 1
ruling_number Never = 2
ruling_number Varies = 3
ruling_number NoOutcome = 4
