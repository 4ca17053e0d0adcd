-- What one connection is read, and which message of it comes next.
use Rattle.std.specs.Prelude.{◌≡◌, ◌⊎◌, ◌&&◌, ◌||◌, ◌∷◌, ℕ, Bool, true, false, not, [], Option, Some, None}
use Rattle.std.specs.Prelude.{IfSome, nat_lt}
use Rattle.slab.specs.Slab.{get}
use Rattle.server_connections.specs.Changing.{changed}
use Rattle.server_connections.specs.Lending.{awoken, touched}
use Rattle.server_connections.specs.Peers.{is_due, is_open}
use Rattle.server_connections.specs.Reading.{IsReadOnce, IsUnasked, is_readable}
use Rattle.server_connections.specs.declared.connections.Connections.{Connections}
use Rattle.server_connections.specs.declared.peer.Peer.{Peer}
use Rattle.server_connections.specs.declared.peer.Role.{Role}
use Rattle.server_connections.specs.declared.peer.Role.TheVariants as role
use Rattle.server_connections.specs.declared.peer_stream.Arrival.{Arrival}
use Rattle.server_connections.specs.declared.peer_stream.Arrival.TheVariants as arrived
use Rattle.server_connections.specs.declared.peer_stream.PeerStream.{Ghosts as Streams}
use Rattle.server_inbox.specs.Asking.{Gives, is_empty, refilled}
use Rattle.server_inbox.specs.declared.inbox.Asked.{Asked}
use Rattle.server_typing.specs.Typed.{drains}
use Rattle.server_steps.specs.declared.progress.Progress.{Progress}
use Rattle.server_steps.specs.declared.progress.Progress.TheVariants as progress

-- the next is done after anything that was done and needn't wait
abbrev pub goes_on : Option Progress → Bool
goes_on None = false
goes_on (Some progress.Held) = false
goes_on (Some p) = true

abbrev pub is_window : Role → Bool
is_window (role.Window window) = true
is_window other = false

module _ {S : Type 0} where
  -- The message that was put back was taken out, or the next one of the stream, of which nothing is done. There is none
  -- if the connection isn't read.
  pub record Asks (old : Peer S) (next : Option Asked) (new : Peer S) : Type 0 where
    pub shut : is_open old.stage ≡ false → (next ≡ None) × (new ≡ old)
    pub again : is_open old.stage ≡ true → IfSome old.inbox.begun (λ asked. (next ≡ Some asked)
        × (new.reader ≡ old.reader) × (new.inbox ≡ record old.inbox { begun = None }))
    pub none : is_open old.stage ≡ true → old.inbox.begun ≡ None → next ≡ None
        → (old.inbox.messages.items ≡ []) × IsUnasked old new
    pub next_is : is_open old.stage ≡ true → old.inbox.begun ≡ None → IfSome next (λ asked. (asked.done ≡ 0)
        × Gives old.inbox old.reader (asked.message ∷ []) new.inbox new.reader)
    pub same : is_open old.stage ≡ true → new ≡ record old {
      inbox = record (refilled old.inbox new.inbox) { begun = None };
      reader = new.reader;
    }

  -- it was taken out of the connection of a key; no other connection changed
  abbrev pub AsksAt : ℕ → Connections S → Option Asked → Connections S → Type 0
  AsksAt key old next new =
      ((get old.peers key ≡ None) × (next ≡ None) × (new ≡ awoken old key))
      ⊎ ((peer : Peer S) × (left : Peer S) × (get old.peers key ≡ Some peer) × Asks peer next left
      × (new ≡ touched old key left))

  -- a message was put back, to be gone on with
  abbrev pub begun : Asked → Peer S → Peer S
  begun asked peer = record peer { inbox = record peer.inbox { begun = Some asked } }

  -- unless it is done
  abbrev pub left_over : Progress → Asked → ℕ → Connections S → Connections S
  left_over progress.Done asked key s = s
  left_over other asked key s = changed (begun asked) key s

  -- it waits for leave to do what it was asked for
  abbrev pub on_hold : Peer S → Peer S
  on_hold peer = record peer { is_held = true }

  -- so it does after something that has to wait
  abbrev pub held_after : Option Progress → ℕ → Connections S → Connections S
  held_after (Some progress.Held) key s = changed on_hold key s
  held_after other key s = s

  abbrev pub is_window_at : Option (Peer S) → Bool
  is_window_at None = false
  is_window_at (Some peer) = is_window peer.role

  -- it is a window, comes next, and so much output may still be done
  abbrev pub prints_at : Bool → ℕ → Option (Peer S) → Bool
  prints_at is_next left peer = (is_next && nat_lt 0 left) && is_window_at peer

  -- it is a window of which messages are left, or more than 8,192 bytes of output were done in this turn
  abbrev pub is_much : Bool → ℕ → Option (Peer S) → Bool
  is_much is_done left peer = (not is_done || nat_lt left 24576) && is_window_at peer

  -- what it sends is denied, and more is there than one read finds
  abbrev pub drains_at : Option (Peer S) → Bool
  drains_at None = false
  drains_at (Some peer) = drains peer.inbox.typed

  -- it has something to read or to do, if what was held is tried again
  abbrev pub unheld : Peer S → Peer S
  unheld peer = record peer { is_held = false }

  abbrev pub is_due_at : Option (Peer S) → Bool
  is_due_at None = false
  is_due_at (Some peer) = is_due (unheld peer)

  -- messages, keys or sizes of it aren't done yet
  abbrev pub has_asked_at : Option (Peer S) → Bool
  has_asked_at None = false
  has_asked_at (Some peer) = not (is_empty peer.inbox)

  -- it sent bytes that are no frame, and all that it asked for before them is done
  abbrev pub is_faulty_at : Option (Peer S) → Bool
  is_faulty_at None = false
  is_faulty_at (Some peer) = is_open peer.stage && (peer.inbox.is_broken && is_empty peer.inbox)

  -- It was read once, unless it may not be. What came is taken in after all that came before.
  pub record IsRead (streams : Streams S) (now size : ℕ) (old : Peer S) (arrival : Arrival) (new : Peer S)
      : Type 0 where
    pub not_read : is_readable now old ≡ false → (arrival ≡ arrived.Nothing) × (new ≡ old)
    pub read : is_readable now old ≡ true → IsReadOnce streams.reads now size old arrival new
    pub same : new ≡ record old {
      stream = new.stream;
      reader = new.reader;
      inbox = record (refilled old.inbox new.inbox) { typed = new.inbox.typed };
      has_more = new.has_more;
    }

  -- the connection of a key was; no other one changed
  abbrev pub ReadsAt : Streams S → ℕ → ℕ → ℕ → Connections S → Arrival → Connections S → Type 0
  ReadsAt streams now size key old arrival new =
      ((get old.peers key ≡ None) × (arrival ≡ arrived.Nothing) × (new ≡ awoken old key))
      ⊎ ((peer : Peer S) × (left : Peer S) × (get old.peers key ≡ Some peer)
      × IsRead streams now size peer arrival left × (new ≡ touched old key left))
