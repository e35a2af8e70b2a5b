use Rattle.std.proofs.Common.{take}
use Rattle.racks.specs.Changing.{sheets_meaning}
use Rattle.racks.specs.Reading.{Adds, unpacked}
use Rattle.racks.proofs.file.reader.lay_rules.Given as goal

abbrev pub invariant-loop-bytes : goal.invariant-loop-bytes
invariant-loop-bytes l = Adds (unpacked (take l.bytes-index l.rules)) (sheets_meaning l.initial.sheets) (sheets_meaning l.sheets)
