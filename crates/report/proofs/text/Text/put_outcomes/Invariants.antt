use Rattle.std.proofs.Common.{take}
use Rattle.report.specs.Pages.{Adds}
use Rattle.report.specs.Text.{listing}
use Rattle.report.proofs.text.Text.put_outcomes.Given as goal

-- the lines of the outcomes so far are on the page
abbrev pub invariant-loop-outcome : goal.invariant-loop-outcome
invariant-loop-outcome l = Adds l.initial.page (listing l.self.matters (take l.outcome-index l.outcome-items)) l.page
