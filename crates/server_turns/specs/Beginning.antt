-- How a turn of a loop begins.
use Rattle.std.specs.Prelude.{◌≡◌, ◌≢◌, ◌↔◌, ◌||◌, ◌+◌, ℕ, Bool, true, false, Option, Some, None, ⊤}
use Rattle.std.specs.Prelude.{Result, Ok, Err, IsSomeAnd, OnErr, OnOk, min, option_map, unwrap_or}
use Rattle.std.specs.Duration.{as_nanos}
use Rattle.std.specs.declared.alloc.AllocError.{AllocError}
use Rattle.std.specs.declared.io.Error.{Error}
use Rattle.std.specs.declared.time.Duration.{Duration}
use Rattle.slab.specs.Slab.{get, slab_len}
use Rattle.server_connections.specs.Marked.{IsMarked}
use Rattle.server_connections.specs.Peers.{IsNewcomer}
use Rattle.server_connections.specs.declared.connections.Connections.{Connections}
use Rattle.server_connections.specs.declared.peer_stream.PeerStream.{Ghosts as Streams}
use Rattle.server_pace.specs.Pacing.{longest_sleep}
use Rattle.server_seat.specs.declared.seat.SessionSeat.{Ghosts as Calls}
use Rattle.server_steps.specs.declared.turns.Pending.{Pending}
use Rattle.server_loop.specs.Awaiting.{Pends}
use Rattle.server_loop.specs.Leaving.{IfBool}
use Rattle.server_loop.specs.Submitting.{State}
use Rattle.server_loop.specs.Turning.{LetsOldestGo}
use Rattle.server_turns.specs.Calls.{Call, Accept, Event, Flooded, Hand, Note, Now, Queue, Take, Wait}
use Rattle.server_turns.specs.Course.{Course}
use Rattle.server_turns.specs.Marks.{after, asked_by}
use Rattle.server_turns.specs.Steps.{Until}
use Rattle.server_turns.specs.Waits.{most_new, sleep_for, wants}
use Rattle.server_turns.specs.declared.around.Backlog.{Backlog}
use Rattle.server_turns.specs.declared.around.Came.{Came}

module _ {S : Type 0} where
  -- a stream became the connection of the vacant key, which is awake; without memory it was closed
  pub record Admits (stream : S) (extra : Bool) (old new : Connections S) : Type 0 where
    pub done : Result ⊤ AllocError
    pub admitted : OnOk done (IsSomeAnd (get new.peers old.peers.vacant_key) (IsNewcomer stream old.number extra))
    pub awake : OnOk done (IsMarked new.awake old.peers.vacant_key)
    pub number : OnOk done (new.number ≡ min (old.number + 1) 18446744073709551615)
    pub fails : OnErr done (get new.peers old.peers.vacant_key ≡ get old.peers old.peers.vacant_key)
    pub others : (key : ℕ) → key ≢ old.peers.vacant_key
        → (get new.peers key ≡ get old.peers key) × (IsMarked new.awake key ↔ IsMarked old.awake key)

  abbrev pub AdmitsIf : Option S → Bool → Connections S → Connections S → Type 0
  AdmitsIf None extra old new = new ≡ old
  AdmitsIf (Some stream) extra old new = Admits stream extra old new

module _ {S J : Type 0} where
  -- its connections are these now
  abbrev pub with_connections : Connections S → State S J → State S J
  with_connections connections s = record s { connections = connections }

module _ {S J A : Type 0} where
  -- something that came was noted: at its connection, or that connections may wait to be handed out
  abbrev pub noted : Came → Course S J A → Course S J A
  noted one s =
      record s { own = with_connections (after one s.own.connections) s.own; is_asked = asked_by one s.is_asked }

  module _ (does : A → Call → A → Type 0) where
    -- It waited for what comes: not at all with something to do, and else at most until there is something to be
    -- looked at, draws are due, or other loops to which much comes may have left something to be looked at.
    pub record Sleeps (old : Course S J A) (result : Result ⊤ Error) (new : Course S J A) : Type 0 where
      pub pending : Pending
      pub pends : Pends old.own pending
      pub queue : Backlog
      pub queues : does old.around (Queue queue) old.around
      pub flooded : Bool
      pub floods : does old.around (Flooded flooded) old.around
      pub longest : Option Duration
      pub is_longest : option_map as_nanos longest ≡ sleep_for ((wants pending).0 || queue.has_more)
          ((wants pending).1 || queue.is_stuck) (wants pending).2
          (longest_sleep flooded (as_nanos old.own.now) old.pace)
      pub waits : does old.around (Wait longest result) new.around
      pub same : new ≡ record old { around = new.around }

    -- the turn has the time that the clock has, or without one the last turn's
    abbrev pub TakesTime : Course S J A → Option Duration → Course S J A → Type 0
    TakesTime old now new = does old.around (Now now) old.around
        × (new ≡ record old { own = record old.own { now = unwrap_or now old.own.now } })

    -- the next thing that came was noted, if something else came, and nothing else
    abbrev pub TakesEvent : Course S J A → Bool → Course S J A → Type 0
    TakesEvent old false new =
        does old.around (Event None) new.around × (new ≡ record old { around = new.around })
    TakesEvent old true new = (one : Came) × does old.around (Event (Some one)) new.around
        × (new ≡ noted one (record old { around = new.around }))

    -- all that came was noted, in order
    abbrev pub Sorts : Course S J A → Course S J A → Type 0
    Sorts old new = Until (λ count was now. TakesEvent was true now) (λ count was now. TakesEvent was false now)
        (record old { is_asked = false }) new

    -- connections that wait were handed out, if they may wait
    abbrev pub AcceptsIf : Course S J A → Result ⊤ Error → Course S J A → Type 0
    AcceptsIf old result new = (queue : Backlog) × does old.around (Queue queue) old.around
        × IfBool (old.is_asked || (queue.has_more || queue.is_stuck))
        (does old.around (Accept result) new.around × (new ≡ record old { around = new.around }))
        ((result ≡ Ok tt) × (new ≡ old))

  -- the connection that was handed last was taken in, if the system let it; no other one changed
  abbrev pub Wires : (A → ℕ → Option S → A → Type 0) → Bool → Course S J A → Course S J A → Type 0
  Wires wires extra old new = (stream : Option S)
      × wires old.around old.own.connections.peers.vacant_key stream new.around
      × AdmitsIf stream extra old.own.connections new.own.connections
      × (new ≡ record old { around = new.around; own = with_connections new.own.connections old.own })

  module _ (calls : Calls J) (streams : Streams S) (does : A → Call → A → Type 0) where
    -- of newcomers there are fewer than so many, or the oldest one went
    abbrev pub MakesRoom : ℕ → Course S J A → Course S J A → Type 0
    MakesRoom most old new = LetsOldestGo calls streams most old.own new.own × (new ≡ record old { own = new.own })

    -- if the system refused connections, the oldest newcomer went
    abbrev pub Frees : Course S J A → Course S J A → Type 0
    Frees old new = (queue : Backlog) × does old.around (Queue queue) old.around
        × IfBool queue.is_stuck (MakesRoom 1 old new) (new ≡ old)

    module _ (wires : A → ℕ → Option S → A → Type 0) where
      -- the next connection that was handed to the loop was taken in, once there was room for it
      abbrev pub AdmitsNext : Course S J A → Bool → Course S J A → Type 0
      AdmitsNext old false new =
          does old.around (Hand None) new.around × (new ≡ record old { around = new.around })
      AdmitsNext old true new = (extra : Bool) × (mid : A) × does old.around (Hand (Some extra)) mid
          × (room : Course S J A) × MakesRoom (most_new old.loops extra) (record old { around = mid }) room
          × Wires wires extra room new

      -- all were, in order
      abbrev pub AdmitsAll : Course S J A → Course S J A → Type 0
      AdmitsAll old new =
          Until (λ count was now. AdmitsNext was true now) (λ count was now. AdmitsNext was false now) old new

      -- Connections that wait were handed out. Then the news were taken, the oldest newcomer went if it had to, and
      -- those that were handed to this loop were taken in; the others know whether it has some.
      pub record Fills (old new : Course S J A) : Type 0 where
        pub mid : A
        pub takes : does old.around Take mid
        pub freed : Course S J A
        pub frees : Frees (record old { around = mid }) freed
        pub admitted : Course S J A
        pub admits : AdmitsAll freed admitted
        pub notes : does admitted.around (Note (slab_len admitted.own.connections.peers)) new.around
        pub same : new ≡ record admitted { around = new.around }

      abbrev pub FillsIf : Result ⊤ Error → Course S J A → Course S J A → Type 0
      FillsIf (Ok done) old new = Fills old new
      FillsIf (Err error) old new = new ≡ old

      abbrev pub TakesIn : Course S J A → Result ⊤ Error → Course S J A → Type 0
      TakesIn old result new =
          (mid : Course S J A) × AcceptsIf does old result mid × FillsIf result mid new

      -- all that came was noted, after the time was, and connections were taken in
      pub record Looks (old : Course S J A) (now : Option Duration) (result : Result ⊤ Error) (new : Course S J A)
          : Type 0 where
        pub timed : Course S J A
        pub times : TakesTime does old now timed
        pub sorted : Course S J A
        pub sorts : Sorts does timed sorted
        pub takes : TakesIn sorted result new

      abbrev pub LooksIf : Result ⊤ Error → Course S J A → Result (Option Duration) Error → Course S J A → Type 0
      LooksIf (Err error) old result new = (result ≡ Err error) × (new ≡ old)
      LooksIf (Ok done) old (Ok now) new = Looks old now (Ok done) new
      LooksIf (Ok done) old (Err error) new = (now : Option Duration) × Looks old now (Err error) new

      -- a turn began: it waited, unless the system refused that, and then looked at what came
      abbrev pub Begins : Course S J A → Result (Option Duration) Error → Course S J A → Type 0
      Begins old result new = (slept : Result ⊤ Error) × (mid : Course S J A) × Sleeps does old slept mid
          × LooksIf slept mid result new
