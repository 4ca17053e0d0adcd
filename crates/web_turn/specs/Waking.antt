-- Which places events concern, how long a bridge rests, and what a round of its loop does.
use Rattle.std.specs.Prelude.{◌≡◌, ◌⊎◌, ◌↔◌, ◌||◌, ℕ, Bool, true, List, [], ◌∷◌, IsTrue, if◌then◌else◌, nat_lt}
use Rattle.std.specs.Prelude.{Option, Some, None, Result, Ok, Err, ⊤, ◌<◌, get_or, length, zero, suc}
use Rattle.std.specs.Duration.{as_nanos}
use Rattle.std.specs.declared.io.Error.{Error}
use Rattle.std.specs.declared.time.Duration.{Duration}
use Rattle.mio.specs.Event.{event_token}
use Rattle.mio.specs.declared.event.event.Event.{Event}
use Rattle.web_streams.specs.declared.stream.WebStream.{Ghosts as Streams}
use Rattle.web_streams.specs.declared.connections.BridgeStream.{Ghosts as Makes}
use Rattle.web_streams.specs.declared.connections.WebListener.{WebListener}
use Rattle.web_streams.specs.declared.connections.Woken.{Woken}
use Rattle.web_streams.specs.declared.connections.Woken.TheVariants.{Listener, Browser, Server, Hall}
use Rattle.web_relay.specs.Halls.{heeds}
use Rattle.web_relay.specs.Places.{changed_at, heeds_browser, heeds_server}
use Rattle.web_streams.specs.Tokens.{WakesFor, woken}
use Rattle.web_turn.specs.declared.bridge.Bridge.{Bridge}
use Rattle.web_turn.specs.Accepting.{AcceptsIf}
use Rattle.web_turn.specs.Turning.{HasWork, Turns}

module _ {S : Type 0} where
  -- Browsers wait at a listener, or one connection has something to read or has room.
  abbrev pub wakes : Woken → Bridge S → Bridge S
  wakes (Listener number) b = record b { has_comers = true }
  wakes (Browser place) b = record b { relays = changed_at b.relays place heeds_browser }
  wakes (Server place) b = record b { relays = changed_at b.relays place heeds_server }
  wakes (Hall place) b = record b { halls = record b.halls { list = changed_at b.halls.list place heeds } }

  -- one event after another
  abbrev pub wakes_all : List Event → Bridge S → Bridge S
  wakes_all [] b = b
  wakes_all (event ∷ later) b = wakes_all later (wakes (woken (event_token event).0) b)

  -- How long a bridge rests at most without an event, in nanoseconds: not at all if something is left to do, a tenth of
  -- a second if browsers may wait or refusals are to be told, and else two seconds.
  abbrev pub longest_rest : Bridge S → ℕ
  longest_rest b =
      if b.is_busy then 0 else if b.has_comers || nat_lt 0 b.refused then 100000000 else 2000000000

-- ---- whether listeners are watched, by what came of asking for it

module _ (asks : WebListener → ℕ → Result ⊤ Error → Type 0) (listeners : List WebListener) where
  -- the listener of this number was to be watched, under a token whose events are for it
  abbrev pub WakesAt : ℕ → Result ⊤ Error → Type 0
  WakesAt number watched =
      (number < length listeners) × (listener : WebListener) × (get_or listeners number listener ≡ listener)
      × WakesFor asks Listener number listener watched

  abbrev pub WakesAll : Type 0
  WakesAll = (number : ℕ) → number < length listeners → WakesAt number (Ok tt)

  -- the system refused to watch one
  abbrev pub IsDeaf : Error → Type 0
  IsDeaf error = (number : ℕ) × WakesAt number (Err error)

module _ {S : Type 0} (streams : Streams S) (makes : Makes S)
    (takes : (folder secret : List ℕ) → Option (List ℕ × ℕ) → Type 0) where
  -- Each event is noted, browsers are accepted, and all have their turn. The next round comes at once exactly if work
  -- is left, or more browsers may be accepted.
  pub record Rounds (now : Duration) (events : List Event) (listeners : List WebListener) (old new : Bridge S)
      : Type 0 where
    pub came : Bridge S
    pub more : Bool
    pub accepts : AcceptsIf makes listeners now (wakes_all events old) more came
    pub turned : Bridge S
    pub turns : Turns streams makes takes now came turned
    pub busy : IsTrue new.is_busy ↔ (HasWork turned ⊎ (more ≡ true))
    pub rest : new ≡ record turned { is_busy = new.is_busy }

  -- a round at the time after a wait; none after one that was interrupted or refused
  abbrev pub RoundsAfter : Result (Option Duration) Error → List Event → List WebListener → Bridge S
      → Result ⊤ Error → Bridge S → Type 0
  RoundsAfter (Ok (Some now)) events listeners old result new =
      (result ≡ Ok tt) × Rounds now events listeners old new
  RoundsAfter (Ok None) events listeners old result new = (result ≡ Ok tt) × (new ≡ old)
  RoundsAfter (Err error) events listeners old result new = (result ≡ Err error) × (new ≡ old)

  -- it waited for as long as it rests at most, and had a round with what came
  abbrev pub GoesRound : {P : Type 0} → (P → Duration → Result (Option Duration) Error → List Event → P → Type 0)
      → List WebListener → P → Bridge S → Result ⊤ Error → P → Bridge S → Type 0
  GoesRound waits listeners before old result after new =
      (longest : Duration) × (as_nanos longest ≡ longest_rest old) × (came : Result (Option Duration) Error)
      × (events : List Event) × waits before longest came events after
      × RoundsAfter came events listeners old result new

  module _ {P : Type 0} (waits : P → Duration → Result (Option Duration) Error → List Event → P → Type 0)
      (listeners : List WebListener) where
    -- this many rounds, one after another
    abbrev pub GoesRounds : ℕ → P → Bridge S → P → Bridge S → Type 0
    GoesRounds zero before old after new = (after ≡ before) × (new ≡ old)
    GoesRounds (suc count) before old after new =
        (between : P) × (mid : Bridge S) × GoesRounds count before old between mid
        × GoesRound waits listeners between mid (Ok tt) after new

    -- rounds, up to one in which the system refused to wait
    abbrev pub GoesOn : P → Bridge S → Error → Type 0
    GoesOn before old error =
        (count : ℕ) × (between : P) × (mid : Bridge S) × GoesRounds count before old between mid
        × (after : P) × (new : Bridge S) × GoesRound waits listeners between mid (Err error) after new

  -- All listeners are watched, and the bridge goes round; or the system refused to watch one.
  abbrev pub Serves : {P : Type 0} → (P → WebListener → ℕ → Result ⊤ Error → Type 0)
      → (P → Duration → Result (Option Duration) Error → List Event → P → Type 0) → List WebListener → P → Bridge S
      → Error → Type 0
  Serves asks waits listeners poll bridge error =
      IsDeaf (asks poll) listeners error
      ⊎ (WakesAll (asks poll) listeners × GoesOn waits listeners poll bridge error)
