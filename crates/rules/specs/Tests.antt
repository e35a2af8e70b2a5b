-- What a closure that is asked about rules answers.
use Rattle.std.specs.Prelude.{◌≡◌, Bool, List}
use Rattle.rules.specs.declared.rule.Rule.{Rule}
use Rattle.rules.specs.Semantics.{◌∈◌}

-- of each rule of P it answers what the test says
abbrev pub Tests : List Rule → (Rule → Bool → Type 0) → (Rule → Bool) → Type 0
Tests P answers test = (r : Rule) (b : Bool) → r ∈ P → answers r b → b ≡ test r
