use Rattle.std.proofs.Common.{rules}
use Rattle.rules.specs.Held.{held}
use Rattle.rules.proofs.table.Table.as_slice.Goals as goal

pub returns : goal.returns
unfolding held
returns c = search rules
