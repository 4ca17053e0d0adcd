-- The fault of a trail's file, and why a line isn't put down.
use Rattle.std.specs.Prelude.{Bool, true, false, Option, Some, None, Result, Ok, Err, is_ok}
use Rattle.std.specs.declared.io.Error.{Error}
use Rattle.trail_disk.specs.declared.disk.Disk.{Disk}
use Rattle.server_trail.specs.declared.ending.JournalEnd.{JournalEnd}
use Rattle.server_trail.specs.declared.file.StopCause.{StopCause}
use Rattle.server_trail.specs.declared.file.StopCause.TheVariants as stop
use Rattle.server_trail.specs.declared.journal.JournalFault.{JournalFault}
use Rattle.server_trail.specs.declared.journal.JournalFault.TheVariants as fault
use Rattle.server_trail.specs.declared.reading.ReadBack.{ReadBack}
use Rattle.server_trail.specs.declared.recorder.Open.{Open}
use Rattle.server_trail.specs.declared.waiting.Stopped.{Stopped}
use Rattle.server_trail.specs.declared.writing.NoEnd.{NoEnd}
use Rattle.server_trail.specs.Stopping.{stop_cause}

-- from why it stopped, whether its last line was written, and the errors of its last write and of a sync
abbrev pub fault_of : Option StopCause → Bool → Option Error → Option Error → Option JournalFault
fault_of (Some stop.Memory) ended refused unsynced = Some fault.Memory
fault_of (Some stop.Disk) ended (Some error) unsynced = Some (fault.Refused (record { 0 = error }))
fault_of (Some stop.Disk) ended None unsynced = Some fault.TooSlow
fault_of None true refused None = None
fault_of None true refused (Some error) = Some (fault.Unsynced (record { 0 = error }))
fault_of None false (Some error) unsynced = Some (fault.Cut (record { 0 = error }))
fault_of None false None (Some error) = Some (fault.Unsynced (record { 0 = error }))
fault_of None false None None = Some fault.Unended

-- of a file that is to be read back: what shows that it was
abbrev pub read_as : Result (Option ReadBack) Error → Result ReadBack JournalFault
read_as (Ok (Some back)) = Ok back
read_as (Ok None) = Err fault.Differs
read_as (Err error) = Err (fault.NotRead (record { 0 = error }))

-- from whether it stopped, what came of its last line, and its disk
abbrev pub fault_in : {F : Type 0} → Result Open Stopped → Result (Unit {0}) NoEnd → Disk F → Option JournalFault
fault_in stop ended disk = fault_of (stop_cause stop) (is_ok ended) disk.writes.error disk.syncs.error

-- a file that has this fault, or none
abbrev pub noted_as : Option JournalFault → JournalEnd → JournalEnd
noted_as None end = record end { is_over = true; is_sound = true }
noted_as (Some fault) end = record end { is_over = true; is_sound = false; outcome = Err fault }
