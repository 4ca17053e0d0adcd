-- What came to a loop by an event of its poll.
use Rattle.std.specs.Prelude.{◌≡◌, ℕ, ◌+◌, ◌-◌, ◌%◌, ◌^◌, ◌==◌, ◌||◌, if◌then◌else◌, false, min, slice_get}
use Rattle.std.specs.Prelude.{Option, Some, None, is_some, option_map}
use Rattle.mio.specs.Events.{items}
use Rattle.mio.specs.declared.token.Token.{Token}
use Rattle.server_seat.specs.declared.seat.ServerEnd.{ServerEnd}
use Rattle.server_turns.specs.Calls as calls
use Rattle.server_turns.specs.Calls.{Call}
use Rattle.server_turns.specs.declared.around.Backlog.{Backlog}
use Rattle.server_turns.specs.declared.around.Learned.{Learned}
use Rattle.server_system.specs.declared.looks.KnownUsers.{KnownUsers}
use Rattle.server.specs.declared.acceptor.Acceptor.{Acceptor}
use Rattle.server.specs.declared.loop_handle.HandCalls.{HandCalls}
use Rattle.server.specs.declared.loop_handle.HandedStream.{HandedStream}
use Rattle.server.specs.declared.turns.Inlet.{Inlet}
use Rattle.mio.specs.Event.{event_token, is_error, is_read_closed, is_readable, is_writable}
use Rattle.mio.specs.declared.event.event.Event.{Event}
use Rattle.server_turns.specs.declared.around.Came.{Came}
use Rattle.server_turns.specs.declared.around.Came.TheVariants as came

-- the waker's token is 0, the listener's 1, and those of the connections come after these
abbrev pub came_to : ℕ → Event → Came
came_to token event = if token == 0 then came.Wake else (if token == 1 then came.Listener
    else came.Peer (token - 2) (is_readable event) (is_writable event) (is_read_closed event || is_error event))

abbrev pub came_by : Event → Came
came_by event = came_to (event_token event).0 event

-- one more, as far as a number of 64 bits goes
abbrev pub next : ℕ → ℕ
next number = min (number + 1) (2 ^ 64 - 1)

-- a loop without the listener has no backlog
abbrev pub backlog_of : Option Acceptor → Backlog
backlog_of None = record { has_more = false; is_stuck = false }
backlog_of (Some acceptor) = acceptor.backlog

-- what a loop learns of what is known of the looks at the users' file
abbrev pub learned_of : KnownUsers → Learned
learned_of known = record { look = known.look; users = known.users }

abbrev pub count_after : ℕ → Option KnownUsers → ℕ
count_after count None = count
count_after count (Some known) = known.count

-- one more, counted round
abbrev pub once_more : HandCalls → HandCalls
once_more calls = record { count = (calls.count + 1) % 2 ^ 64 }

module _ {L E : Type 0} where
  -- after a wait its events are looked at from the first one on, and nothing else has changed
  abbrev pub polled : Inlet L E → Inlet L E → Inlet L E
  polled old new = record old { seen = 0; events = new.events; poll = new.poll }

  module _ (asks : L → ℕ → L → Type 0) (tells : L → ℕ → Option KnownUsers → Type 0)
      (sets : E → ServerEnd → Type 0) (holds : E → Option ServerEnd → Type 0) where
    -- What a call of a loop shows of what lies around it, and that it changes nothing else there: the events of a
    -- wait come in turn, each once, and so do the connections that were handed to the loop. What the other threads
    -- and the system see of a call lies in atomics, under locks and in the system.
    abbrev pub Shows : Inlet L E → Call → Inlet L E → Type 0
    Shows inlet (calls.Event came) left = (came ≡ option_map came_by (slice_get (items inlet.events) inlet.seen))
        × (left ≡ record inlet { seen = next inlet.seen })
    Shows inlet (calls.Wait longest waited) left = left ≡ polled inlet left
    Shows inlet (calls.Pause waited) left = left ≡ polled inlet left
    Shows inlet (calls.Accept result) left =
        (left ≡ record inlet { acceptor = left.acceptor }) × (is_some left.acceptor ≡ is_some inlet.acceptor)
    Shows inlet (calls.Hand None) left = left ≡ record inlet { calls = once_more inlet.calls }
    Shows inlet (calls.Hand (Some is_extra)) left = (handed : HandedStream) × (handed.is_extra ≡ is_extra)
        × (left ≡ record inlet { handed = Some handed; calls = once_more inlet.calls })
    Shows inlet (calls.Ask look) left = (left ≡ inlet) × (was : L) × (asked : L) × asks was look asked
    Shows inlet (calls.Know count learned next) left =
        (left ≡ inlet) × (looks : L) × (known : Option KnownUsers) × tells looks count known
        × (learned ≡ option_map learned_of known) × (next ≡ count_after count known)
    Shows inlet (calls.Queue backlog) left = (left ≡ inlet) × (backlog ≡ backlog_of inlet.acceptor)
    Shows inlet (calls.End end result) left = (left ≡ inlet) × sets inlet.shared.now.over end
    Shows inlet (calls.Over end) left = (left ≡ inlet) × holds inlet.shared.now.over end
    Shows inlet calls.Close left = left ≡ record inlet { acceptor = None }
    Shows inlet other left = left ≡ inlet

-- the token of the connection of a key
abbrev pub token_of : ℕ → Token
token_of key = record { 0 = min (key + 2) (2 ^ 64 - 1) }
