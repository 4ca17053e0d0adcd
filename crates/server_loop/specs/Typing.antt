-- What clients type and how large their terminals are, and what the session is told of it. Times are in milliseconds.
use Rattle.std.specs.Prelude.{◌≡◌, ◌||◌, ◌/◌, ◌^◌, ◌-◌, ℕ, Bool, false, Option, Some, None}
use Rattle.std.specs.Prelude.{MatchOption, codes, if◌then◌else◌, min}
use Rattle.std.specs.Duration.{as_nanos}
use Rattle.std.specs.declared.time.Duration.{Duration}
use Rattle.attach_proto.specs.declared.message.Message.TheVariants as message
use Rattle.session.specs.Trace.{Keys, Resize}
use Rattle.server_connections.specs.declared.connections.Connections.{Connections}
use Rattle.server_sending.specs.Frames.{PutsMessage}
use Rattle.server_sending.specs.Written.{Waiting}
use Rattle.server_steps.specs.Settling.{Tried, is_judged, is_refused, progress_of, settled}
use Rattle.server_steps.specs.Typing.{GathersAt, answered, freed_keys, held_keys, idle_at, is_news_at, size_at, sized}
use Rattle.server_steps.specs.Typing.{target_at, told_news, typed_at, unless_more, user_at, wants_size, with_typed}
use Rattle.server_steps.specs.declared.progress.Progress.{Progress}
use Rattle.server_steps.specs.declared.progress.Progress.TheVariants as made
use Rattle.server_steps.specs.declared.typing.Target.{Target}
use Rattle.server_typing.specs.Typed.{Typed, is_idle, untyped}
use Rattle.server_users.specs.declared.user.Shown.{Shown}
use Rattle.server_seat.specs.declared.seat.SessionSeat.{Ghosts as Calls}
use Rattle.server_loop.specs.Handing.{Faults, SendsTo}
use Rattle.server_loop.specs.Leaving.{IfBool}
use Rattle.server_loop.specs.Obeying.{SubmitsFor}
use Rattle.server_loop.specs.Submitting.{State, peer_at, with_peer}
use Rattle.server_loop.specs.Trying.{Tries}

-- the time of a turn
abbrev pub millis_of : Duration → ℕ
millis_of now = min (as_nanos now / 1000000) (2 ^ 64 - 1)

-- the window of a target takes no more for now; a command doesn't wait for that
abbrev pub Stops : {J : Type 0} → Calls J → Target → J → Bool → Type 0
Stops calls target seat is_full =
    IfBool target.begins_command (is_full ≡ false) (calls.finds_full seat target.window is_full)

module _ {S J : Type 0} where
  -- the keys that are left after an answer; if some were judged, the turn knows that keys were typed
  abbrev pub judged_on : Tried → Typed → Progress → ℕ → State S J → State S J
  judged_on answer t progress key s =
      record (with_peer (answered answer t) key s) { has_typed = s.has_typed || is_judged progress }

module _ {S J : Type 0} (calls : Calls J) where
  -- Keys for a full window wait on as long as it takes, if their user may type into it. If they may not any more, those
  -- that were held are let go.
  abbrev pub WaitsFor : ℕ → Target → Bool → State S J → Bool → State S J → Type 0
  WaitsFor key target is_full old waits new = IfBool (is_full || target.is_held)
      ((may : Bool) × calls.lets_type old.seat target.user.user target.window may
      × IfBool may ((waits ≡ is_full) × (new ≡ (if is_full then with_peer held_keys key old else old)))
      ((waits ≡ false) × (new ≡ with_peer freed_keys key old)))
      ((waits ≡ false) × (new ≡ old))

  -- keys that wait for a connection have to wait on, or not
  abbrev pub MustWait : ℕ → State S J → Bool → State S J → Type 0
  MustWait key old waits new = MatchOption (target_at (peer_at key old))
      ((waits ≡ false) × (new ≡ old))
      (λ target. (is_full : Bool) × Stops calls target old.seat is_full
      × WaitsFor key target is_full old waits new)

  -- its user was told that keys were dropped, if that is news
  abbrev pub TellsDropped : ℕ → ℕ → State S J → State S J → Type 0
  TellsDropped now key old new = IfBool (is_news_at now (peer_at key old))
      (SendsTo calls key (PutsMessage (message.Say (codes "keys were dropped: they waited for a second")))
      (λ (waited left : Waiting). left ≡ waited) (with_peer (told_news now) key old) new)
      (new ≡ with_peer (told_news now) key old)

  -- the last size that the client told was submitted, if it may change by now
  abbrev pub Resizes : ℕ → ℕ → ℕ → State S J → State S J → Type 0
  Resizes now key client old new = MatchOption (size_at now (peer_at key old))
      (new ≡ with_peer (sized now) key old)
      (λ size. SubmitsFor calls (Resize client size.0 size.1) key (with_peer (sized now) key old) new)

  -- if there was no memory for a step, its connection was told to go
  abbrev pub FaultsIf : Bool → ℕ → State S J → State S J → Type 0
  FaultsIf is_refused key old new = IfBool is_refused (Faults calls key old new) (new ≡ old)

  -- The keys that wait were tried for their user, in order, in one step of this client.
  pub record JudgesKeys (key client : ℕ) (shown : Shown) (old : State S J) (progress : Progress) (new : State S J)
      : Type 0 where
    pub answer : Tried
    pub mid : State S J
    pub step : Tries calls shown.user (Keys client (typed_at (peer_at key old)).keys)
        (with_peer (with_typed untyped) key old) answer mid
    pub progress_is : progress ≡ progress_of answer (settled answer (typed_at (peer_at key old)))
    pub left : FaultsIf (is_refused answer) key (judged_on answer (typed_at (peer_at key old)) progress key mid) new

  -- for the user who showed their token
  abbrev pub Judges : ℕ → ℕ → State S J → Progress → State S J → Type 0
  Judges key client old progress new = MatchOption (user_at (peer_at key old))
      ((progress ≡ made.Done) × (new ≡ old))
      (λ shown. JudgesKeys key client shown old progress new)

  -- they have to wait on for their window, or a step of them was made; while more is to be taken in, nothing is held
  abbrev pub JudgesUnlessFull : ℕ → ℕ → Bool → State S J → Option Progress → State S J → Type 0
  JudgesUnlessFull key client is_through old result new = (waits : Bool) × (mid : State S J) × MustWait key old waits mid
      × IfBool waits ((result ≡ Some (unless_more is_through made.Held)) × (new ≡ mid))
      ((progress : Progress) × Judges key client mid progress new × (result ≡ Some (unless_more is_through progress)))

  -- or they wait for a size that waits
  abbrev pub JudgesOrWaits : ℕ → ℕ → Bool → State S J → Option Progress → State S J → Type 0
  JudgesOrWaits key client is_through old result new = IfBool (wants_size (peer_at key old))
      ((result ≡ Some (unless_more is_through made.Held)) × (new ≡ old))
      (JudgesUnlessFull key client is_through old result new)

  -- a size and dropped keys were told, and if keys wait, a step of them was made or they wait on
  abbrev pub TypesOn : ℕ → ℕ → ℕ → Bool → State S J → Option Progress → State S J → Type 0
  TypesOn now key client is_through old result new = (resized : State S J) × (mid : State S J)
      × Resizes now key client old resized × TellsDropped now key resized mid
      × IfBool (is_idle (typed_at (peer_at key mid)))
      ((result ≡ idle_at is_through (peer_at key mid)) × (new ≡ mid))
      (JudgesOrWaits key client is_through mid result new)

  -- if the connection is read, and there was memory
  abbrev pub TypesBy : Option (Option Bool) → ℕ → ℕ → ℕ → State S J → Option Progress → State S J → Type 0
  TypesBy None now key client old result new = (result ≡ Some made.Done) × Faults calls key old new
  TypesBy (Some None) now key client old result new = (result ≡ None) × (new ≡ old)
  TypesBy (Some (Some is_through)) now key client old result new = TypesOn now key client is_through old result new

  -- keys and sizes that came were taken in, and done as far as they may be
  abbrev pub Types : ℕ → ℕ → ℕ → State S J → Option Progress → State S J → Type 0
  Types now key client old result new = (far : Option (Option Bool)) × (taken : Connections S)
      × GathersAt now key old.connections far taken
      × TypesBy far now key client (record old { connections = taken }) result new
