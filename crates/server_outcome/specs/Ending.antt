-- How a server ends.
use Rattle.std.specs.Prelude.{Bool, true, false, Option, Some, None, Result, Ok, Err, ⊤}
use Rattle.std.specs.declared.io.Error.{Error}
use Rattle.server_seat.specs.declared.seat.ServerEnd.{ServerEnd}
use Rattle.server_seat.specs.declared.seat.ServerEnd.TheVariants as end
use Rattle.server_outcome.specs.declared.ending.Unready.{Unready}
use Rattle.server_outcome.specs.declared.ending.Unready.TheVariants.{NoThread}
use Rattle.server_outcome.specs.declared.fault.ServeFault.{ServeFault}
use Rattle.server_outcome.specs.declared.fault.ServeFault.TheVariants as fault
use Rattle.trail_lines.specs.declared.ending.Cause.{Cause}
use Rattle.trail_lines.specs.declared.ending.Cause.TheVariants as cause

-- the cause that the last line of the trail's file names; a fault leaves the file without one
abbrev pub cause_of : Option ServerEnd → Option Cause
cause_of (Some end.Quit) = Some cause.Quit
cause_of (Some end.TrailFull) = Some cause.Full
cause_of _ = None

-- After a server served: it ended well only if `quit` ended it, every answer stands in the trail, and the trail's
-- file has no fault.
abbrev pub outcome_of : {A : Type 0} → Option ServerEnd → Result A ServeFault → Bool → Result A ServeFault
outcome_of (Some end.Quit) trail true = trail
outcome_of (Some end.Quit) trail false = Err fault.Trail
outcome_of (Some end.TrailFull) (Err wrong) agrees = Err wrong
outcome_of (Some end.TrailFull) (Ok trail) agrees = Err fault.TrailFull
outcome_of _ trail agrees = Err fault.Loop

-- why a loop couldn't be started
abbrev pub why_unready : Option Unready → ServeFault
why_unready (Some NoThread) = fault.NoThread
why_unready _ = fault.NoMemory

-- what a server kept that served, which says that it is ready before
abbrev pub served : {A : Type 0} → Result A ServeFault → Option (Result ⊤ Error) → Option Unready → Result A ServeFault
served (Err why) said missing = Err why
served (Ok kept) (Some (Ok is)) missing = Ok kept
served (Ok kept) (Some (Err error)) missing = Err (fault.Untold (record { 0 = error }))
served (Ok kept) None missing = Err (why_unready missing)
