use Rattle.std.proofs.Common.{not, rules}
use Rattle.steps.proofs.Opposing.{against, told_against, standing}
use Rattle.steps.proofs.rejection.survivors.Goals as goal

pub returns : goal.returns
returns c =
    let table = c.args.overrulers.now in
    let claims = c.args.claims.now in
    standing table claims c.args.program.ready.few_rules (c.filtered.ensures (λ r. not (against table claims r)) (λ r b m k. search (rules, told_against)))
