-- What the writer of a trail's file is woken and waits for, and the cause that the file's last line names.
use Rattle.std.specs.Prelude.{ℕ, ◌==◌, ◌&&◌, ◌||◌, Bool, Option, Some, None, Result, Ok, Err, nat_le, nat_lt}
use Rattle.trail_lines.specs.declared.ending.Cause.{Cause}
use Rattle.trail_lines.specs.declared.ending.Cause.TheVariants as cause
use Rattle.server_trail.specs.declared.file.StopCause.{StopCause}
use Rattle.server_trail.specs.declared.file.StopCause.TheVariants as stop
use Rattle.server_trail.specs.declared.recorder.Open.{Open}
use Rattle.server_trail.specs.declared.waiting.Stopped.{Stopped}

-- ---- the writer

-- it is woken by the first bytes that are ready, and as soon as 65,536 are
abbrev pub wakes : ℕ → ℕ → Bool
wakes before ready = before == 0 && nat_lt 0 ready || nat_lt before 65536 && nat_le 65536 ready

-- why a file stopped, if it did
abbrev pub stop_cause : Result Open Stopped → Option StopCause
stop_cause (Ok shown) = None
stop_cause (Err stopped) = Some stopped.cause

-- the cause that the last line names: why the file stopped, else why the session ended
abbrev pub last_cause : Option StopCause → Option Cause → Option Cause
last_cause (Some stop.Disk) ended = Some cause.Disk
last_cause (Some stop.Memory) ended = Some cause.Memory
last_cause None ended = ended
