use Rattle.std.proofs.Common.{sym, subst, rules}
use Rattle.rules.specs.Held.{held}
use Rattle.rules.proofs.Filtering.{filtered_whole}
use Rattle.racks.specs.Meaning.{Kept}
use Rattle.racks.specs.Changing.{sheets_meaning, under}
use Rattle.racks.specs.Tables.{held_few}
use Rattle.racks.proofs.Laid.{withdrawn_kept, without_top}
use Rattle.racks.proofs.sheets.Sheets.withdraw.Goals as goal

pub invariant_of-self : goal.invariant_of-self
invariant_of-self c =
    let s = c.args.self.now in
    let e = filtered_whole (under c.in_ok-top.top) (held s.table) _ _ (held_few s.table) c.as_slice.ensures (c.filtered-self.ensures (under c.in_ok-top.top) (λ r b m h. search rules)) in
    record { kept = subst Kept (sym (without_top (sheets_meaning s) c.in_ok-top.top _ e c.in_ok-top.ensures.1)) (withdrawn_kept (sheets_meaning s) s.kept) }

pub returns : goal.returns
returns c =
    let s = c.args.self.now in
    let e = filtered_whole (under c.in_ok-top.top) (held s.table) _ _ (held_few s.table) c.as_slice.ensures (c.filtered-self.ensures (under c.in_ok-top.top) (λ r b m h. search rules)) in
    (search rules, without_top (sheets_meaning s) c.in_ok-top.top _ e c.in_ok-top.ensures.1)
