-- What an event is for, and what came of asking a listener.
use Rattle.std.specs.Prelude.{◌≡◌, ◌≢◌, ◌<◌, ◌^◌, ℕ, ◌/◌, ◌%◌, ◌==◌, if◌then◌else◌, List, Option, Result, Ok, Err, ⊤}
use Rattle.std.specs.IoError.{error_kind}
use Rattle.std.specs.declared.io.Error.{Error}
use Rattle.std.specs.declared.io.ErrorKind.TheVariants.{WouldBlock}
use Rattle.web_streams.specs.declared.connections.Accepted.{Accepted}
use Rattle.web_streams.specs.declared.connections.Accepted.TheVariants.{Came, Nothing, Refused}
use Rattle.web_streams.specs.declared.connections.Woken.{Woken}
use Rattle.web_streams.specs.declared.connections.Woken.TheVariants.{Listener, Browser, Server, Hall}

-- four kinds take turns, from place to place
abbrev pub of_kind : ℕ → ℕ → Woken
of_kind kind place =
    if kind == 0 then Listener place else if kind == 1 then Browser place
    else if kind == 2 then Server place else Hall place

-- what the event of a token is for
abbrev pub woken : ℕ → Woken
woken token = of_kind (token % 4) (token / 4)

-- its events are for this place, below 2 ^ 62
abbrev pub IsTokenOf : (ℕ → Woken) → ℕ → ℕ → Type 0
IsTokenOf kind place token = place < 2 ^ 62 → woken token ≡ kind place

-- the system was asked to watch something for this place
abbrev pub WakesFor : {T : Type 0} → (T → ℕ → Result ⊤ Error → Type 0) → (ℕ → Woken) → ℕ → T → Result ⊤ Error → Type 0
WakesFor wakes kind place it watched = (token : ℕ) × IsTokenOf kind place token × wakes it token watched

-- a connection to a socket was made for this place, if one could be
abbrev pub ReachesFor : {S : Type 0} → (List ℕ → ℕ → Option S → Type 0) → (ℕ → Woken) → ℕ → List ℕ → Option S → Type 0
ReachesFor reaches kind place socket made = (token : ℕ) × IsTokenOf kind place token × reaches socket token made

-- one who waits comes; nobody waits; or the system is to be asked again
abbrev pub IsAccepted : {S : Type 0} → Result S Error → Accepted S → Type 0
IsAccepted (Ok stream) came = came ≡ Came stream
IsAccepted (Err error) (Came stream) = ⊥
IsAccepted (Err error) Nothing = error_kind error ≡ WouldBlock
IsAccepted (Err error) Refused = error_kind error ≢ WouldBlock
