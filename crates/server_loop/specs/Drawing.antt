-- Whose draws a loop asks for.
use Rattle.std.specs.Prelude.{◌≡◌, ◌⊎◌, ◌+◌, ◌-◌, ◌<◌, ℕ, zero, suc, Bool, true, false, Option, Some, None}
use Rattle.std.specs.Prelude.{Err, MatchOption, Ok, min}
use Rattle.slab.specs.Slab.{get}
use Rattle.session.specs.Trace.{Draw}
use Rattle.server_connections.specs.Changing.{drawn}
use Rattle.server_connections.specs.Telling.{told_if_any}
use Rattle.server_connections.specs.declared.connections.Connections.{Connections}
use Rattle.server_connections.specs.declared.peer_stream.PeerStream.{Ghosts as Streams}
use Rattle.server_seat.specs.declared.seat.SeatFault.TheVariants as fault
use Rattle.server_seat.specs.declared.seat.SessionSeat.{Ghosts as Calls}
use Rattle.server_steps.specs.Sending.{wanting}
use Rattle.server_steps.specs.Turns.{drawn_from, next_from}
use Rattle.server_loop.specs.Handing.{HandsOut}
use Rattle.server_loop.specs.Leaving.{IfBool}
use Rattle.server_loop.specs.Submitting.{Answer, State, Submits, peer_at, with_peer}
use Rattle.server_loop.specs.Walking.{VisitsAll}
use Rattle.server_loop.specs.Writing.{DropsLost, Writes}
use Rattle.server_loop.specs.declared.own.Drawn.{Drawn}

-- one more was made
abbrev pub one_more : Drawn → Drawn
one_more draws = record draws { made = min (draws.made + 1) 18446744073709551615 }

module _ {S J : Type 0} where
  -- a draw that was made is noted; without memory it is asked for again in the next turn
  abbrev pub NotesDraw : Answer → ℕ → State S J → State S J → Type 0
  NotesDraw (Ok answer) key old new = new ≡ record (with_peer drawn key old) { draws = one_more old.draws }
  NotesDraw (Err fault.NoMemory) key old new = new ≡ record old { has_refused = true }
  NotesDraw (Err (fault.Over end)) key old new = new ≡ old

module _ {S J : Type 0} (calls : Calls J) where
  -- a client's draw was asked for, once
  pub record Draws (client key : ℕ) (old new : State S J) : Type 0 where
    pub answer : Answer
    pub mid : State S J
    pub step : Submits calls (Draw client) old answer mid
    pub noted : NotesDraw answer key mid new

  -- The client of a key is drawn if it wants that and if more may be. The answer is how many more may be after it; None
  -- if no more may be, and it waits on.
  abbrev pub DrawsNext : ℕ → ℕ → State S J → Option ℕ → State S J → Type 0
  DrawsNext key most old left new =
      ((wanting (peer_at key old) ≡ None) × (left ≡ Some most) × (new ≡ old))
      ⊎ ((client : ℕ) × (wanting (peer_at key old) ≡ Some client)
      × (((most ≡ 0) × (left ≡ None) × (new ≡ old))
      ⊎ ((0 < most) × (left ≡ Some (most - 1)) × Draws client key old new)))

  -- Of so many keys from this one on, those clients were drawn that want it, in order and each once, but no more than
  -- so many. It is said from which key on some are left.
  abbrev pub DrawsFrom : ℕ → ℕ → ℕ → State S J → Option ℕ → State S J → Type 0
  DrawsFrom zero key most old next new = (next ≡ None) × (new ≡ old)
  DrawsFrom (suc count) key most old next new =
      (DrawsNext key most old None new × (next ≡ Some key))
      ⊎ ((left : ℕ) × (mid : State S J) × DrawsNext key most old (Some left) mid
      × DrawsFrom count (key + 1) left mid next new)

module _ {S : Type 0} where
  -- each connection was told that there is something to draw
  pub record AreTold (old new : Connections S) : Type 0 where
    pub told : (key : ℕ) → get new.peers key ≡ told_if_any (get old.peers key)
    pub same : new ≡ record old { peers = record old.peers { slots = new.peers.slots } }

module _ {S J : Type 0} where
  -- so it was, if a step other than a draw was made
  abbrev pub TellsAll : State S J → State S J → Type 0
  TellsAll old new = IfBool old.draws.is_told
      (AreTold old.connections new.connections
      × (new ≡ record old { connections = new.connections; draws = record old.draws { is_told = false } }))
      (new ≡ old)

module _ {S J : Type 0} (calls : Calls J) (streams : Streams S) where
  -- what came of steps went to its connections, and was written, but for what was typed by those who lost their right
  abbrev pub HandsOn : State S J → State S J → Type 0
  HandsOn old new = IfBool old.is_behind
      ((mid : State S J) × HandsOut calls old mid × (kept : State S J) × DropsLost calls mid kept
      × VisitsAll (Writes calls streams) kept new)
      (new ≡ old)

  -- Of the clients from a key on, those were drawn that want it, 16 at most, and were sent that. If some are left, it
  -- is gone on with them in the next turn.
  pub record DrawsRound (from : ℕ) (is_held : Bool) (old new : State S J) : Type 0 where
    pub told : State S J
    pub tells : TellsAll old told
    pub next : Option ℕ
    pub asked : State S J
    pub draws : DrawsFrom calls (told.connections.peers.capacity - from) from 16 told next asked
    pub handed : HandsOn (record asked {
      draws = record asked.draws { from = next_from next from is_held };
    }) new

  -- so they were, unless draws are held; a round that was begun is gone on with
  abbrev pub DrawsAll : Bool → State S J → State S J → Type 0
  DrawsAll is_held old new = MatchOption (drawn_from old.draws.from is_held)
      (new ≡ old) (λ from. DrawsRound from is_held old new)
