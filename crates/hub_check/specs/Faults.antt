-- The number of each fault.
use Rattle.std.specs.Prelude.{ℕ}
use Rattle.hub_check.specs.declared.CheckFault.{CheckFault}
use Rattle.hub_check.specs.declared.CheckFault.TheVariants.{BadEntry, NoMemory}

-- the number of a fault
abbrev pub check_number : CheckFault → ℕ
check_number (BadEntry place) = 1
check_number NoMemory = 2
