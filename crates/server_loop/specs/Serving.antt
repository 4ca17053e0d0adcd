-- What a connection asked for is done: its messages in order, and what isn't done of one is put back, to come first.
use Rattle.std.specs.Prelude.{◌≡◌, ◌+◌, ◌==◌, ◌&&◌, ℕ, Bool, false, not, Option, Some, None}
use Rattle.std.specs.Prelude.{◌||◌, is_some, min, nat_le, nat_lt}
use Rattle.slab.specs.Slab.{get}
use Rattle.server_connections.specs.declared.connections.Connections.{Connections}
use Rattle.server_connections.specs.declared.peer.Role.{Role}
use Rattle.server_connections.specs.declared.peer.Role.TheVariants as role
use Rattle.server_connections.specs.declared.peer_stream.Arrival.{Arrival}
use Rattle.server_connections.specs.declared.peer_stream.Arrival.TheVariants as arrived
use Rattle.server_connections.specs.declared.peer_stream.PeerStream.{Ghosts as Streams}
use Rattle.server_inbox.specs.declared.inbox.Asked.{Asked}
use Rattle.server_steps.specs.Asking.{AsksAt, ReadsAt, drains_at, goes_on, has_asked_at, held_after, is_due_at}
use Rattle.server_steps.specs.Asking.{is_faulty_at, is_much, is_window_at, left_over, prints_at, unheld}
use Rattle.server_steps.specs.Meaning.{meaning_of, role_at}
use Rattle.server_steps.specs.Submitted.{nothing_submitted}
use Rattle.server_steps.specs.declared.progress.Progress.{Progress}
use Rattle.server_steps.specs.declared.turns.Reads.{Reads}
use Rattle.server_seat.specs.declared.seat.SessionSeat.{Ghosts as Calls}
use Rattle.server_loop.specs.Leaving.{IfBool, Loses}
use Rattle.server_loop.specs.Obeying.{ObeysBy}
use Rattle.server_loop.specs.Submitting.{State, peer_at, with_peer}
use Rattle.server_loop.specs.Typing.{FaultsIf, Types, millis_of}
use Rattle.server_loop.specs.Walking.{Repeats, VisitsAll}

module _ {S J : Type 0} where
  -- this turn has much to do if it had before, or if this is true
  abbrev pub with_much : Bool → State S J → State S J
  with_much is_much s = record s { has_much = s.has_much || is_much }

module _ {S J : Type 0} (calls : Calls J) where
  -- the message that comes next was done, or a step of it, and what isn't done of it was put back
  pub record ObeysAsked (key : ℕ) (old : State S J) (progress : Progress) (new : State S J) : Type 0 where
    pub asked : Asked
    pub taken : Connections S
    pub next : AsksAt key old.connections (Some asked) taken
    pub left : Asked
    pub mid : State S J
    pub obeys : ObeysBy calls (meaning_of (role_at (get taken.peers key)) asked.message) key asked left
        (record old { connections = taken }) progress mid
    pub back : new ≡ record mid { connections = left_over progress left key mid.connections }

  -- if there is one
  abbrev pub ObeysNext : ℕ → State S J → Option Progress → State S J → Type 0
  ObeysNext key old None new =
      AsksAt key old.connections None new.connections × (new ≡ record old { connections = new.connections })
  ObeysNext key old (Some progress) new = ObeysAsked key old progress new

  -- after a client's keys and sizes, of which there were none
  abbrev pub ObeysAfter : ℕ → Option Progress → State S J → Option Progress → State S J → Type 0
  ObeysAfter key None old result new = ObeysNext key old result new
  ObeysAfter key (Some progress) old result new = (result ≡ Some progress) × (new ≡ old)

  -- what a connection asked for first was done, or a step of it: a client's keys and sizes come before its messages
  abbrev pub Obeys : Role → ℕ → ℕ → State S J → Option Progress → State S J → Type 0
  Obeys (role.Client client) now key old result new = (typed : Option Progress) × (mid : State S J)
      × Types calls now key client old typed mid
      × ObeysAfter key typed mid result new
  Obeys role now key old result new = ObeysNext key old result new

  -- Something that a connection asked for was done, and it is said whether to go on. A window's output waits once as
  -- much as a turn does was done.
  abbrev pub Steps : ℕ → State S J → Bool → State S J → Type 0
  Steps key old goes new = IfBool ((old.output_left == 0) && is_window_at (peer_at key old))
      ((goes ≡ false) × (new ≡ old))
      ((result : Option Progress) × (mid : State S J)
      × Obeys (role_at (peer_at key old)) (millis_of old.now) key old result mid × (goes ≡ goes_on result)
      × (new ≡ record mid { connections = held_after result key mid.connections }))

  -- So much of what a connection asked for was done that the others have their turn. If bytes came that are no frame,
  -- and all before them is done, it was told to go. It is said whether all is done.
  abbrev pub ObeysSome : ℕ → State S J → Bool → State S J → Type 0
  ObeysSome key old is_done new = (stepped : State S J) × (mid : State S J) × Repeats (Steps key) 8 old stepped
      × FaultsIf calls (is_faulty_at (peer_at key stepped)) key stepped mid
      × (is_done ≡ not (has_asked_at (peer_at key mid)))
      × (new ≡ with_much (is_much is_done mid.output_left (peer_at key mid)) mid)

  -- After a read some of what the connection asked for was done, unless nothing came and nothing is left to be done.
  -- One that ended was given up. It is said whether to read on: all is done, and the read didn't bring as much as it
  -- takes.
  abbrev pub ServesAfter : Arrival → ℕ → State S J → Bool → State S J → Type 0
  ServesAfter arrived.End key old goes new = (goes ≡ false) × Loses calls key old new
  ServesAfter arrived.Nothing key old goes new = IfBool (has_asked_at (peer_at key old))
      (ObeysSome key old goes new)
      ((goes ≡ false) × (new ≡ old))
  ServesAfter arrived.Some key old goes new = ObeysSome key old goes new
  ServesAfter arrived.Much key old goes new = (goes ≡ false)
      × (is_done : Bool) × ObeysSome key (with_much (not (drains_at (peer_at key old))) old) is_done new

module _ {S J : Type 0} (calls : Calls J) (streams : Streams S) where
  -- a connection was read once, unless it may not be, and served
  abbrev pub ServesOnce : ℕ → State S J → Bool → State S J → Type 0
  ServesOnce key old goes new = (arrival : Arrival) × (taken : Connections S)
      × ReadsAt streams (millis_of old.now) old.room key old.connections arrival taken
      × ServesAfter calls arrival key (record old { connections = taken }) goes new

  -- one that has something to read or to do was served, 16 times at most; what was held is tried again
  abbrev pub Serves : ℕ → State S J → State S J → Type 0
  Serves key old new = IfBool (is_due_at (peer_at key old))
      (Repeats (ServesOnce key) 16 (with_peer unheld key old) new)
      (new ≡ with_peer unheld key old)

  -- a client or a stranger was
  pub record ServesOther (key : ℕ) (old new : State S J) : Type 0 where
    pub outcome : IfBool (is_window_at (peer_at key old)) (new ≡ old) (Serves key old new)

  -- a window was if it comes next, and if output may still be done; then the windows after it come next
  pub record ServesWindow (is_next : Bool) (key : ℕ) (old new : State S J) : Type 0 where
    pub outcome : IfBool (prints_at is_next old.output_left (peer_at key old))
        ((mid : State S J) × Serves key old mid × IfBool (is_due_at (peer_at key old))
        (new ≡ record mid { next = min (key + 1) 18446744073709551615 }) (new ≡ mid))
        (new ≡ old)

  -- Windows were served, with 32,768 bytes of output in all: first those from `next` on, then those before it.
  abbrev pub ServesWindows : State S J → State S J → Type 0
  ServesWindows old new = (mid : State S J)
      × VisitsAll (λ key. ServesWindow (nat_le old.next key) key) (record old { output_left = 32768 }) mid
      × VisitsAll (λ key. ServesWindow (nat_lt key old.next) key) mid new

  -- Each client and each stranger that is awake was served, in the order of the keys. Then windows were, unless draws
  -- that were begun are to be gone on with.
  abbrev pub ServesAll : State S J → State S J → Type 0
  ServesAll old new = (mid : State S J) × VisitsAll ServesOther old mid
      × IfBool (is_some mid.draws.from) (new ≡ mid) (ServesWindows mid new)

  -- All were served. The answer tells what was typed, printed and submitted in this turn alone.
  pub record ReadsAll (old : State S J) (result : Reads) (new : State S J) : Type 0 where
    pub mid : State S J
    pub serves : ServesAll (record old { has_typed = false; has_much = false }) mid
    pub typed : result.has_typed ≡ mid.has_typed
    pub much : result.is_much ≡ mid.has_much
    pub submitted : result.submitted ≡ mid.submitted
    pub new_is : new ≡ record mid { submitted = nothing_submitted }
