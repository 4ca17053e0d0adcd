-- What reading the line of a command gives.
use Rattle.std.specs.Prelude.{ℕ, ◌<◌, ◌≤◌, List, length}
use Rattle.command_lang.specs.declared.command.Command.{Command}
use Rattle.command_lang.specs.declared.fault.FaultKind.TheVariants as faults
use Rattle.command_lang.specs.Table.{at}
use Rattle.command_lang.specs.Relation.{Relates, Refuses}

-- reading gives the command, or TooLong if the line has more than 1,024 bytes
pub record ReadsBack (line : List ℕ) (c : Command) : Type 0 where
  pub short : length line ≤ 1024 → Relates line c
  pub long : 1024 < length line → Refuses line (at 1024 faults.TooLong)
