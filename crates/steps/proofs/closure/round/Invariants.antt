use Rattle.std.proofs.Common.{ℕ, ◌<◌, get_or}
use Rattle.rules.specs.declared.rule.Rule.{Rule}
use Rattle.rules.specs.Semantics.{LiteralSet, ◌⊆◌, ◌∈◌}
use Rattle.rules.specs.Parts.{no_rule}
use Rattle.steps.proofs.Firing.{Fires}
use Rattle.steps.proofs.closure.round.Given as goal

abbrev pub invariant-loop-r : goal.invariant-loop-r
invariant-loop-r l =
    (l.y ⊆ l.z)
    × ((k : ℕ) → k < l.r-index → Fires (get_or l.rules k no_rule) l.y l.z)
    × ((W : LiteralSet) → l.y ⊆ W → ((r : Rule) → r ∈ l.rules → Fires r l.y W) → l.z ⊆ W)
