use Rattle.std.proofs.Common.{refl}
use Rattle.rules.specs.Held.{held}
use Rattle.rules.proofs.table.Table.new.Goals as goal

pub returns : goal.returns
unfolding held
returns c = refl
