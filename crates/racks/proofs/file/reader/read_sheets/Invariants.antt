use Rattle.racks.specs.Changing.{sheets_meaning}
use Rattle.racks.proofs.Files.{Done}
use Rattle.racks.proofs.file.reader.read_sheets.Given as goal

abbrev pub invariant-loop : goal.invariant-loop
invariant-loop l = Done l.initial.sheets.matters l.counter l.initial.rest l.rest (sheets_meaning l.sheets)
