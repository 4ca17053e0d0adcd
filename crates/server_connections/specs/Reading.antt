-- What a read of a connection brings, and whether more may be there after it.
use Rattle.std.specs.Prelude.{◌≡◌, ◌==◌, ◌&&◌, ◌||◌, ◌++◌, ℕ, Bool, true, false, List, [], Some, if◌then◌else◌}
use Rattle.std.specs.Prelude.{is_some, length}
use Rattle.attach_proto.specs.declared.message.Message.{Message}
use Rattle.server_inbox.specs.Asking.{Stands, is_taken}
use Rattle.server_typing.specs.Typed.{Typed, after_read, may_read}
use Rattle.server_connections.specs.Peers.{has_more, is_open, is_stranger}
use Rattle.server_connections.specs.declared.peer.Peer.{Peer}
use Rattle.server_connections.specs.declared.peer_stream.Arrival.{Arrival}
use Rattle.server_connections.specs.declared.peer_stream.Arrival.TheVariants as arrival

-- a read that brought no byte is to be made again
abbrev pub is_again : Arrival → Bool
is_again arrival.Some = true
is_again other = false

-- what keys that wait know of a read at this time that brought no byte: there is none for now
abbrev pub after_none : ℕ → Arrival → Typed → Typed
after_none now arrival.Nothing t = after_read now false t
after_none now other t = t

abbrev pub is_much : Arrival → Bool
is_much arrival.Much = true
is_much other = false

-- of a read that brought so many
abbrev pub after_arrival : ℕ → ℕ → Arrival → Typed → Typed
after_arrival now count arrival t =
    if count == 0 then after_none now arrival t else after_read now (is_much arrival) t

-- so many bytes came into a buffer of this size: as many as it takes, or fewer; of none it is known why
abbrev pub arrival_of : ℕ → ℕ → Arrival → Arrival
arrival_of size count came =
    if count == 0 then came else if count == size then arrival.Much else arrival.Some

module _ {S : Type 0} where
  -- it may be read at this time
  abbrev pub is_readable : ℕ → Peer S → Bool
  is_readable now peer =
      ((is_open peer.stage && has_more peer)
      && (is_taken peer.inbox && may_read now (is_some peer.inbox.sizing.wanted) peer.inbox.typed))
      && is_some peer.stream

  -- More may be there after a read that filled the buffer or is to be made again. After fewer bytes more may be there
  -- if its other end was closed, or as long as it is a stranger.
  abbrev pub more_after : Peer S → ℕ → Arrival → Bool
  more_after peer count arrival.Much = true
  more_after peer count arrival.Some = (count == 0) || (peer.has_hung_up || is_stranger peer.role)
  more_after peer count other = false

  -- after a read that brought so many bytes it is known whether more may be there, and keys that wait know of it
  abbrev pub Notes : ℕ → ℕ → Arrival → Peer S → Peer S → Type 0
  Notes now count arrival old new = (new.has_more ≡ more_after old count arrival)
      × (new.inbox.typed ≡ after_arrival now count arrival old.inbox.typed)

  -- no message was there, and nothing changed
  pub record IsUnasked (old new : Peer S) : Type 0 where
    pub none : new.inbox.messages.items ≡ []
    pub same : new ≡ record old { inbox = record old.inbox { messages = new.inbox.messages } }

  -- Its stream was read once, with room for so many bytes. What came is taken in after all that came before, and it is known whether more may be
  -- there. What was taken out before stays as it was.
  pub record IsReadOnce (reads : S → ℕ → List ℕ → Arrival → S → Type 0) (now size : ℕ) (old : Peer S)
      (arrival : Arrival) (new : Peer S)
      : Type 0 where
    pub stream : S
    pub left : S
    pub piece : List ℕ
    pub came : Arrival
    pub was : old.stream ≡ Some stream
    pub is : new.stream ≡ Some left
    pub read : reads stream size piece came left
    pub arrives : arrival ≡ arrival_of size (length piece) came
    pub notes : Notes now (length piece) arrival old new
    pub stands : (taken : List Message) (all : List ℕ) → Stands old.inbox old.reader taken all
        → Stands new.inbox new.reader taken (all ++ piece)
