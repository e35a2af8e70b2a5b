use Rattle.std.proofs.Common.{◌-◌, ◌*◌}
use Rattle.rules.specs.Semantics.{Overruling}
use Rattle.rules.proofs.Rounds.{Counted}
use Rattle.steps.specs.Ruling.{Ruled}
use Rattle.steps.proofs.model.settle.Given as goal

abbrev pub invariant-turns : goal.invariant-turns
invariant-turns l = (over : Overruling) → Ruled over l.overrulers → Counted l.program.rules.now over l.program.matters l.rounds l.x

abbrev pub decreases-turns : goal.decreases-turns
decreases-turns l = 2 * l.program.matters - l.rounds
