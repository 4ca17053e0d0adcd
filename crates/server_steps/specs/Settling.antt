-- What the answer to a step of keys makes of them.
use Rattle.std.specs.Prelude.{ℕ, zero, Bool, true, false, List, [], Option, Some, None, Result, Ok, Err}
use Rattle.std.specs.Prelude.{if◌then◌else◌, nat_eq, take}
use Rattle.std.specs.List.{list_any}
use Rattle.session.specs.Trace.{Reply}
use Rattle.server_seat.specs.declared.seat.SeatAnswer.{SeatAnswer}
use Rattle.server_seat.specs.declared.seat.SeatFault.{SeatFault}
use Rattle.server_seat.specs.declared.seat.SeatFault.TheVariants as fault
use Rattle.server_typing.specs.Typed.{Typed, is_idle, judged}
use Rattle.server_users.specs.declared.allowance.Outcome.{Outcome}
use Rattle.server_users.specs.declared.allowance.Outcome.TheVariants as outcome
use Rattle.server_steps.specs.declared.progress.Progress.{Progress}
use Rattle.server_steps.specs.declared.progress.Progress.TheVariants as progress

-- an answer; none if the user has to wait
abbrev pub Tried : Type 0
Tried = Result (Option SeatAnswer) SeatFault

-- how many keys were judged
abbrev pub taken_of : Reply → ℕ
taken_of (Ok done) = done.taken
taken_of (Err refusal) = 0

abbrev pub is_denied : Outcome → Bool
is_denied outcome.Denied = true
is_denied other = false

-- the key that begins a command is among these
abbrev pub has_command : List ℕ → Bool
has_command keys = list_any (λ key. nat_eq key 1) keys

-- The window into which the next keys go: the one that was typed into. After a command it isn't known.
abbrev pub window_after : List ℕ → Tried → Option ℕ
window_after keys (Ok (Some answer)) =
    if has_command (take (taken_of answer.reply) keys) then None else answer.typed
window_after keys other = None

-- the keys after so many were judged; if none were, nothing can come of the rest either, and all go
abbrev pub left_of : ℕ → Typed → Typed
left_of zero t = record t { keys = []; held = false }
left_of taken t = judged taken t

-- the keys after an answer
abbrev pub settled : Tried → Typed → Typed
settled (Ok None) t = record t { denied = true }
settled (Ok (Some answer)) t = left_of (taken_of answer.reply) (record t { denied = is_denied answer.outcome })
settled (Err refusal) t = left_of 0 t

-- how far they are done, by those that are left
abbrev pub progress_of : Tried → Typed → Progress
progress_of (Ok None) left = progress.Held
progress_of other left = if is_idle left then progress.Done else progress.Part

-- keys were judged: their user didn't have to wait
abbrev pub is_judged : Progress → Bool
is_judged progress.Held = false
is_judged p = true

-- what came of a step for the user who tried it
abbrev pub came_of : Result SeatAnswer SeatFault → Outcome
came_of (Ok answer) = answer.outcome
came_of (Err refusal) = outcome.Untaken

-- there was no memory for a step
abbrev pub is_refused : Tried → Bool
is_refused (Err fault.NoMemory) = true
is_refused answer = false
