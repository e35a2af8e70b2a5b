use Rattle.std.proofs.Common.{rules}
use Rattle.racks.specs.Tables.{held_few}
use Rattle.layers.proofs.showing.show.Goals as goal

pub overflow_cast-rules : goal.overflow_cast-rules
overflow_cast-rules g c = let h = held_few c.sift-shown.result in search rules
