use Rattle.std.proofs.Common.{ℕ, ◌+◌, ◌<◌, ◌≤◌, List}
use Rattle.arrayvec.specs.ArrayVec.{array_vec_len}
use Rattle.rules.specs.declared.rule.Rule.{Rule}
use Rattle.rules.specs.Semantics.{LiteralSet, Overruling}
use Rattle.lanes.specs.Contesting.{Hears}
use Rattle.lanes.specs.Founding.{Holding}
use Rattle.lanes.proofs.Founding.{Partly}
use Rattle.lanes.proofs.firing.Firings.enter.Given as goal

abbrev pub invariant-loop-r : goal.invariant-loop-r
invariant-loop-r l =
    (array_vec_len l.self.items ≤ array_vec_len l.initial.self.items + l.r-index)
    × ((Q : List Rule) (over : Overruling) (n : ℕ) (X : ℕ → LiteralSet) → Hears Q over X l.matter l.contest → l.matter < n
    → Holding Q over n X l.lanes (λ b. b < l.matter + 1) (Partly l.contest.rules.now l.matter 0) l.initial.self.items.items
    → Holding Q over n X l.lanes (λ b. b < l.matter + 1) (Partly l.contest.rules.now l.matter l.r-index) l.self.items.items)
