use Rattle.std.proofs.Common.{ap, ◌∙◌, arith, ℕ}
use Rattle.rules.specs.Held.{held}
use Rattle.rules.specs.Records.{ruled}
use Rattle.racks.specs.Changing.{sheets_meaning}
use Rattle.racks.proofs.Laid.{pushed_kept}
use Rattle.racks.proofs.sheets.Sheets.lay.Goals as goal

pub invariant_of-self : goal.invariant_of-self
invariant_of-self c =
    let s = c.args.self.now in
    let x = c.args.record in
    let rule = c.in_ok-rule.ensures in
    record { kept = pushed_kept (sheets_meaning s) x c.in_ok-rule.rule c.push.result (held c.push.new.self) (omega arith) rule.0 (rule.1 ∙ ap (λ (t : ℕ). ruled t x) c.in_ok-top.ensures.1) c.push.ensures.value c.push.ensures.after s.kept }
