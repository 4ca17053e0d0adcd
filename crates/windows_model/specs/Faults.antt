-- The number of each fault.
use Rattle.std.specs.Prelude.{ℕ}
use Rattle.windows_model.specs.declared.rows.WindowsFault.{WindowsFault}
use Rattle.windows_model.specs.declared.rows.WindowsFault.TheVariants.{Full, NoSuchWindow}
use Rattle.windows_model.specs.declared.rows.WindowsFault.TheVariants.{NumberTaken, BadTitle, NoMemory}

abbrev pub windows_number : WindowsFault → ℕ
windows_number Full = 1
windows_number NoSuchWindow = 2
windows_number NumberTaken = 3
windows_number BadTitle = 4
windows_number NoMemory = 5
