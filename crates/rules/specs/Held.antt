-- The rules that a table holds, in order.
use Rattle.std.specs.Prelude.{List, take}
use Rattle.rules.specs.declared.rule.Rule.{Rule}
use Rattle.rules.specs.declared.table.Table.{Table}

unfoldable pub held : Table → List Rule
held t = take t.len t.rules
