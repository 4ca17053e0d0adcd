-- When a connection's loop is woken.
use Rattle.std.specs.Prelude.{ℕ, ◌==◌, Bool, true, false, Option, Some, None, Result, Ok, Err, if◌then◌else◌}
use Rattle.std.specs.IoError.{error_kind}
use Rattle.std.specs.declared.io.Error.{Error}
use Rattle.std.specs.declared.io.ErrorKind.{ErrorKind}
use Rattle.std.specs.declared.io.ErrorKind.TheVariants.{WouldBlock}

abbrev pub if_blocked : ErrorKind → Option Bool
if_blocked WouldBlock = Some true
if_blocked _ = None

-- after a write of so many bytes: also when it takes bytes again, if it took none for now, and no more if it took
-- all; None if that is as it was
abbrev pub awaits_after : Result ℕ Error → ℕ → Option Bool
awaits_after (Ok count) len = if count == len then Some false else None
awaits_after (Err error) len = if_blocked (error_kind error)
