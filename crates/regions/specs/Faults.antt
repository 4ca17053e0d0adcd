-- The number of each fault.
use Rattle.std.specs.Prelude.{ℕ}
use Rattle.regions.specs.declared.layout.RegionFault.{RegionFault}
use Rattle.regions.specs.declared.layout.RegionFault.TheVariants.{TooSmall, TooMany, LastRegion, NoMemory}

abbrev pub number : RegionFault → ℕ
number TooSmall = 1
number TooMany = 2
number LastRegion = 3
number NoMemory = 4
