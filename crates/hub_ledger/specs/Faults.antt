-- The number of each fault.
use Rattle.std.specs.Prelude.{ℕ}
use Rattle.hub_ledger.specs.declared.ledger.answer.Foreign.{Foreign}
use Rattle.hub_ledger.specs.declared.ledger.answer.Full.{Full}
use Rattle.hub_ledger.specs.declared.ledger.answer.HubFault.{HubFault}
use Rattle.hub_ledger.specs.declared.ledger.answer.HubFault.TheVariants.{TrailFull, NoMemory, Strange}

abbrev pub number_of_fault : HubFault → ℕ
number_of_fault (TrailFull full) = 1
number_of_fault NoMemory = 2
number_of_fault (Strange foreign) = 3

-- the one value of what shows a fault
abbrev pub full : Full
full = record { _made = tt }

abbrev pub foreign : Foreign
foreign = record { _made = tt }
