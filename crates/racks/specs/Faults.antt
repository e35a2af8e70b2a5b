-- The number of each refusal of a packed file.
use Rattle.std.specs.Prelude.{ℕ}
use Rattle.racks.specs.declared.file.fault.FileFault.{FileFault}
use Rattle.racks.specs.declared.file.fault.FileFault.TheVariants.{TooShort, Version, Matters, TooManySheets, CutOff, Ragged, TooManyRules, BadRule, LeftOver}

abbrev pub file_number : FileFault → ℕ
file_number TooShort = 1
file_number Version = 2
file_number Matters = 3
file_number TooManySheets = 4
file_number CutOff = 5
file_number Ragged = 6
file_number TooManyRules = 7
file_number BadRule = 8
file_number LeftOver = 9
