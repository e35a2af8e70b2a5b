use Rattle.racks.specs.Tables.{held_few}
use Rattle.racks.proofs.sheets.calls.SheetsRack.shape.Goals as goal
use Rattle.std.proofs.Common.{rules}

pub overflow_cast-result : goal.overflow_cast-result
overflow_cast-result c = let h = held_few c.args.self.now.table in search rules
