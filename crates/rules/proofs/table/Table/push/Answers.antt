use Rattle.std.proofs.Common.{sym, refl, arith}
use Rattle.std.proofs.lemmas.List.{length-take-le, take_more_set}
use Rattle.std.proofs.lemmas.Bool.{le-ltb, lt-ltb}
use Rattle.rules.specs.Held.{held}
use Rattle.rules.proofs.table.Table.push.Goals as goal

pub returns-then-at-ge-MOST_RULES : goal.returns-then-at-ge-MOST_RULES
unfolding held
returns-then-at-ge-MOST_RULES c =
    let t = c.args.self.now in
    let e = length-take-le t.len t.rules (omega (arith, t.whole, t.within)) in
    record { value = sym (le-ltb _ _ (omega (arith, e))); after = refl }

pub returns : goal.returns
unfolding held
returns c =
    let t = c.args.self.now in
    let e = length-take-le t.len t.rules (omega (arith, t.whole, t.within)) in
    record { value = sym (lt-ltb _ _ (omega (arith, e))); after = take_more_set t.rules t.len c.args.rule (omega (arith, t.whole)) }
