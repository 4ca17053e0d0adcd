-- The faults are numbered.
use Rattle.std.specs.Prelude.{ℕ}
use Rattle.command_lang.specs.declared.fault.FaultKind.{FaultKind}
use Rattle.command_lang.specs.declared.fault.FaultKind.TheVariants as faults

abbrev pub number_of : FaultKind → ℕ
number_of faults.UnknownCommand = 1
number_of faults.MissingWord = 2
number_of faults.ExtraWord = 3
number_of faults.BadNumber = 4
number_of faults.BadBits = 5
number_of faults.BadQuote = 6
number_of faults.TooLong = 7
number_of faults.NoMemory = 8
number_of faults.BadWord = 9
