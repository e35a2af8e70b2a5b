-- The number of each refusal of a rack that is laid.
use Rattle.std.specs.Prelude.{ℕ}
use Rattle.laying.specs.declared.fault.RackFault.{RackFault}
use Rattle.laying.specs.declared.fault.RackFault.TheVariants.{Matters, TooManySheets, NoSheet, BadRule, PlacesFull}

abbrev pub rack_number : RackFault → ℕ
rack_number Matters = 3
rack_number TooManySheets = 11
rack_number NoSheet = 12
rack_number BadRule = 13
rack_number PlacesFull = 14
