use Rattle.std.proofs.Common.{◌≡◌, ℕ, ◌<◌, ◌≤◌, List}
use Rattle.rules.specs.declared.rule.Rule.{Rule}
use Rattle.rules.specs.Semantics.{LiteralSet, Overruling}
use Rattle.steps.specs.Parts.{SetOf}
use Rattle.lanes.specs.Trying.{Facing, StandFrom}
use Rattle.lanes.proofs.trial.Trial.sweep.Given as goal

abbrev pub invariant-loop-matter : goal.invariant-loop-matter
invariant-loop-matter l =
    ((P : List Rule) (over : Overruling) (X : ℕ → LiteralSet) → Facing P over X l.self l.block → l.to ≤ l.self.matters
    → SetOf l.lanes (StandFrom P over l.self.matters X l.from l.matter l.initial.lanes))
    × (l.from < l.matter → l.lanes ≡ 0 → ⊥)
