use Rattle.std.proofs.Common.{◌≡◌, Bool, take, filter}
use Rattle.rules.specs.declared.rule.Rule.{Rule}
use Rattle.rules.specs.Held.{held}
use Rattle.rules.specs.Tests.{Tests}
use Rattle.rules.proofs.table.Table.filtered.Given as goal

abbrev pub invariant-loop-rule : goal.invariant-loop-rule
invariant-loop-rule g l = (test : Rule → Bool) → Tests l.rules (goal.F-post g l.wanted) test → held l.table ≡ take 256 (filter test (take l.rule-index l.rules))
