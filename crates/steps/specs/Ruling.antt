-- What the tables of an order say.
use Rattle.rules.specs.Semantics.{Overruling, strictly}
use Rattle.steps.specs.declared.overrulers.Overrulers.{Overrulers}
use Rattle.steps.specs.Parts.{Tabled}

pub record Ruled (over : Overruling) (t : Overrulers) : Type 0 where
  pub broad : Tabled over t.broad
  pub narrow : Tabled (strictly over) t.narrow
