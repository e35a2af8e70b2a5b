use Rattle.std.proofs.Common.{ℕ, ◌+◌, ◌≤◌, List, get_or}
use Rattle.rules.specs.declared.rule.Rule.{Rule}
use Rattle.rules.specs.Semantics.{LiteralSet, Overruling, struck}
use Rattle.arrayvec.specs.ArrayVec.{array_vec_len}
use Rattle.lanes.specs.Founding.{HoldingTo}
use Rattle.lanes.specs.Trying.{Facing}
use Rattle.lanes.proofs.trial.Trial.firings.Given as goal

abbrev pub invariant-loop-matter : goal.invariant-loop-matter
invariant-loop-matter l =
    (array_vec_len l.firings.items ≤ get_or l.self.docket.starts l.matter 0 + l.matter)
    × ((P : List Rule) (over : Overruling) (X : ℕ → LiteralSet) → Facing P over X l.self l.block → HoldingTo (struck P) over l.self.matters X l.lanes l.matter l.firings.items.items)
