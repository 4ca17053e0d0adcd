-- The fault of a file: its path, and what is wrong with it; or there is no memory to tell the path.
use Rattle.std.specs.Prelude.{◌≡◌, ℕ, List}
use Rattle.std.specs.String.{string_bytes}
use Rattle.server_trail.specs.declared.journal.JournalFault.{JournalFault}
use Rattle.server_outcome.specs.declared.fault.ServeFault.{ServeFault}
use Rattle.server_outcome.specs.declared.fault.ServeFault.TheVariants as fault
use Rattle.server_outcome.specs.declared.fault.SetupCause.{SetupCause}

abbrev pub IsOfSetup : List ℕ → SetupCause → ServeFault → Type 0
IsOfSetup path cause fault.NoMemory = Unit {0}
IsOfSetup path cause (fault.Setup at why) = (string_bytes at ≡ path) × (why ≡ cause)
IsOfSetup path cause other = ⊥

abbrev pub IsOfTrail : List ℕ → JournalFault → ServeFault → Type 0
IsOfTrail path wrong fault.NoMemory = Unit {0}
IsOfTrail path wrong (fault.Journal at why) = (string_bytes at ≡ path) × (why ≡ wrong)
IsOfTrail path wrong other = ⊥
