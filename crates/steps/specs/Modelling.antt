-- What is told of the well-founded model.
use Rattle.std.specs.Prelude.{ℕ, ◌*◌, ◌≤◌, List}
use Rattle.rules.specs.declared.rule.Rule.{Rule}
use Rattle.rules.specs.Semantics.{Overruling, Rests, WellFounded}
use Rattle.steps.specs.declared.model.Model.{Model}

-- the well-founded model, and the least number of rounds after which the turns from the empty set rest there
pub record Modelled (P : List Rule) (over : Overruling) (n : ℕ) (r : Model) : Type 0 where
  pub well_founded : WellFounded P over n r.literals
  pub rests : Rests P over n r.rounds r.literals
  pub few_rounds : r.rounds ≤ 2 * n
