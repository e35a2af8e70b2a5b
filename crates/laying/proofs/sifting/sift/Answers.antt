use Rattle.std.proofs.Common.{rules}
use Rattle.rules.specs.Held.{held}
use Rattle.rules.proofs.Filtering.{filtered_whole}
use Rattle.racks.specs.Tables.{held_few}
use Rattle.laying.proofs.sifting.sift.Goals as goal

pub returns : goal.returns
returns g c =
    let test = g.C.Choice.chosen c.args.choice.now in
    filtered_whole test (held c.args.table.now) _ _ (held_few c.args.table.now) c.as_slice.ensures (c.filtered.ensures test (search (rules, test)))
