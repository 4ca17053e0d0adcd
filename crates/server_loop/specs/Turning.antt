-- What a turn of a loop leaves behind, and how connections go.
use Rattle.std.specs.Prelude.{◌≡◌, ◌⊎◌, ◌<◌, ◌≤◌, ℕ, Bool, true, false, Option, Some, None, if◌then◌else◌}
use Rattle.std.specs.declared.time.Duration.{Duration}
use Rattle.attach_proto.specs.declared.why.Why.{Why}
use Rattle.attach_proto.specs.declared.why.Why.TheVariants as why
use Rattle.slab.specs.Slab.{Updates, get}
use Rattle.server_connections.specs.Changing.{changed, told_to_go}
use Rattle.server_connections.specs.Life.{without_guest}
use Rattle.server_connections.specs.Marked.{without_mark}
use Rattle.server_connections.specs.Peers.{goes, rests}
use Rattle.server_connections.specs.declared.connections.Connections.{Connections}
use Rattle.server_connections.specs.declared.peer_stream.PeerStream.{Ghosts as Streams}
use Rattle.server_seat.specs.Ending.{why_of_end}
use Rattle.server_seat.specs.declared.news.Guest.{Guest}
use Rattle.server_seat.specs.declared.seat.ServerEnd.{ServerEnd}
use Rattle.server_seat.specs.declared.seat.SessionSeat.{Ghosts as Calls}
use Rattle.server_steps.specs.Ending.{EachKey, FinishesAt, IsOldest, expired, fullness_at, gone_at, new_below}
use Rattle.server_steps.specs.Ending.{new_number, told_full}
use Rattle.server_steps.specs.Sending.{WritesAt}
use Rattle.server_steps.specs.Submitted.{nothing_submitted}
use Rattle.server_steps.specs.Telling.{went, with_any}
use Rattle.server_steps.specs.declared.turns.Writes.{Writes as Written}
use Rattle.server_loop.specs.Awaiting.{EndsBy}
use Rattle.server_loop.specs.Drawing.{DrawsAll}
use Rattle.server_loop.specs.Handing.{HandsOut}
use Rattle.server_loop.specs.Leaving.{Loses, TriesLeaving}
use Rattle.server_loop.specs.Submitting.{CountsOff, State, peer_at, with_peer}
use Rattle.server_loop.specs.Walking.{VisitsAll}
use Rattle.server_loop.specs.Writing.{DropsLaggard, DropsLost, Writes}

module _ {S J : Type 0} where
  -- a connection that was waited for as long as it may be was told to go, or closed if it was told so before
  abbrev pub Expires : Duration → ℕ → State S J → State S J → Type 0
  Expires now key old new = new ≡ with_peer (expired now) key old

module _ {S : Type 0} where
  -- it went if all is done with it, and rests if nothing is to be done; no other one changed
  pub record IsSettled (key : ℕ) (old new : Connections S) : Type 0 where
    pub awake : new.awake ≡ (if rests (get old.peers key) then without_mark old.awake key else old.awake)
    pub gone : goes (get old.peers key) ≡ true → Updates old.peers new.peers key None
    pub stays : goes (get old.peers key) ≡ false → new.peers ≡ old.peers
    pub same : new ≡ record old { peers = new.peers; awake = new.awake }

module _ {S J : Type 0} (calls : Calls J) where
  -- a guest that went is counted no more
  abbrev pub Leaves : Option (Guest × Option Why) → State S J → State S J → Type 0
  Leaves None old new = new ≡ old
  Leaves (Some gone) old new = CountsOff calls gone.0.user gone.0.kind old new

  -- its guest, if it was one and went, is counted no more, and the log is told of it once
  abbrev pub PartsWith : ℕ → State S J → State S J → Type 0
  PartsWith key old new = Leaves (gone_at (peer_at key old)) (record (with_peer without_guest key old) {
    news = with_any (went (gone_at (peer_at key old))) old.news;
  }) new

  -- all loops were told whether a window is full, if that is news
  abbrev pub TellsNews : Option (ℕ × Bool) → State S J → State S J → Type 0
  TellsNews None old new = new ≡ old
  TellsNews (Some news) old new =
      calls.sets_full old.seat news.0 news.1 new.seat × (new ≡ record old { seat = new.seat })

  -- If it is news whether its window is full, all loops were told.
  abbrev pub TellsFull : ℕ → State S J → State S J → Type 0
  TellsFull key old new = TellsNews (fullness_at (peer_at key old)) (with_peer told_full key old) new

  -- All loops were told of its window, its guest went, and it goes or rests if nothing is to be done.
  pub record Settles (key : ℕ) (old new : State S J) : Type 0 where
    pub told : State S J
    pub tells : TellsFull key old told
    pub mid : State S J
    pub parts : PartsWith key told mid
    pub settled : IsSettled key mid.connections new.connections
    pub same : new ≡ record mid { connections = new.connections }

module _ {S J : Type 0} (calls : Calls J) (streams : Streams S) where
  -- it was told to go, if it wasn't before, and given up; what is closed went
  abbrev pub Closes : ℕ → State S J → State S J → Type 0
  Closes key old new = (closed : Bool) × (written : Connections S)
      × WritesAt streams key (changed (told_to_go why.Fault) key old.connections) closed written
      × (lost : State S J) × Loses calls key (record old { connections = written }) lost
      × VisitsAll (Settles calls) lost new

  -- If the first message of so many connections isn't done, the one that came first was closed so.
  abbrev pub LetsOldestGo : ℕ → State S J → State S J → Type 0
  LetsOldestGo most old new =
      ((new_below old.connections.peers old.connections.peers.capacity < most) × (new ≡ old))
      ⊎ ((((key : ℕ) → key < old.connections.peers.capacity → new_number (peer_at key old) ≡ None) × (new ≡ old))
      ⊎ ((most ≤ new_below old.connections.peers old.connections.peers.capacity)
      × (key : ℕ) × IsOldest old.connections.peers old.connections.peers.capacity key × Closes key old new))

  -- What waited was handed out, all guests were told why the server ends, and strangers were closed.
  pub record Finishes (end : ServerEnd) (old new : State S J) : Type 0 where
    pub mid : State S J
    pub handed : HandsOut calls old mid
    pub told : Connections S
    pub finished : EachKey (FinishesAt streams (why_of_end end)) mid.connections.peers.capacity 0
        mid.connections told
    pub settled : VisitsAll (Settles calls) (record mid { connections = told }) new

  -- a turn begins to end: nothing was refused and no draw was made in it yet
  abbrev pub ending : State S J → State S J
  ending s = record s { has_refused = false; draws = record s.draws { made = 0 } }

  -- A turn ended: who left was told of, what came of it was handed out, and written but for what those typed who lost
  -- their right; draws were asked for, those for whom too much waits were told to go, and what is closed went.
  pub record EndsTurn (holds_draws : Bool) (old : State S J) (result : Written) (new : State S J) : Type 0 where
    pub left : State S J
    pub leaving : VisitsAll (TriesLeaving calls) (ending old) left
    pub out : State S J
    pub handed : HandsOut calls left out
    pub kept : State S J
    pub dropped : DropsLost calls out kept
    pub sent : State S J
    pub written : VisitsAll (Writes calls streams) kept sent
    pub drawn : State S J
    pub draws : DrawsAll calls streams holds_draws sent drawn
    pub timely : State S J
    pub laggards : VisitsAll (DropsLaggard calls streams) drawn timely
    pub mid : State S J
    pub settled : VisitsAll (Settles calls) timely mid
    pub made : result.drawn ≡ mid.draws.made
    pub submitted : result.submitted ≡ mid.submitted
    pub ends : EndsBy calls mid result.end
    pub new_is : new ≡ record mid { submitted = nothing_submitted }
