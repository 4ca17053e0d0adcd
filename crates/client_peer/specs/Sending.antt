-- What a peer has for its server, and what is on its way there.
use Rattle.std.specs.Prelude.{◌≡◌, ◌≢◌, ℕ, ◌<◌, true, false, Option, None, Some, IsSome, Err, List, [], ◌++◌, ◌⊎◌}
use Rattle.std.specs.Prelude.{length, drop}
use Rattle.std.specs.Io.KnownBytes.{Appends}
use Rattle.std.specs.List.{flat_map}
use Rattle.std.specs.Option.{option_or}
use Rattle.attach_proto.specs.declared.kind.Kind.TheVariants.{Output}
use Rattle.attach_proto.specs.declared.message.Message.{Message}
use Rattle.attach_proto.specs.Spelling.{spelling}
use Rattle.client_page.specs.Held.{Holds}
use Rattle.client_page.specs.Kept.{ReadsAll}
use Rattle.client_words.specs.declared.fault.PeerFault.TheVariants.{NoMemory}
use Rattle.client_peer.specs.declared.outgoing.Batch.{Batch}
use Rattle.client_peer.specs.declared.peer.Peer.{Peer}
use Rattle.client_typing.specs.Framing.{Sends}

-- the bytes that wait and weren't sent
abbrev pub unsent : Peer → List ℕ
unsent p = drop p.sent p.frames.items

-- the bytes that were handed out and weren't sent
abbrev pub left : Batch → List ℕ
left b = drop b.sent b.frames.items

-- bytes come after those that waited
abbrev pub IsMore : List ℕ → List ℕ → Type 0
IsMore old new = (more : List ℕ) × (new ≡ old ++ more)

-- whole frames come after those that waited, or none
abbrev pub HasMoreFrames : List ℕ → List ℕ → Type 0
HasMoreFrames old new = (messages : List Message) × (new ≡ old ++ flat_map spelling messages)

-- these bytes come after those that waited, and nothing else changes
pub record Puts (old new : Peer) (bytes : List ℕ) : Type 0 where
  pub added : new.frames.items ≡ old.frames.items ++ bytes
  pub rest : new ≡ record old { frames = new.frames }

-- the server has let the peer in and takes frames, no thread sends any, and some wait
abbrev pub MaySend : Peer → Type 0
MaySend p =
    (p.is_welcome ≡ true) × (p.is_sending ≡ false) × (p.is_shut ≡ false) × (p.frames.items ≢ [])

-- All that waits is handed out, for this connection, and none of it waits any more.
pub record HandsOut (old : Peer) (batch : Batch) (new : Peer) : Type 0 where
  pub all : left batch ≡ unsent old
  pub connection : batch.connection ≡ old.connection
  pub takes : batch.is_shut ≡ false
  pub none : new.frames.items ≡ []
  pub rest : new ≡ record old { frames = new.frames; sent = 0; is_sending = true }

-- What wasn't sent comes first again, before what was put down meanwhile, of which nothing was sent. Of another
-- connection's frames nothing comes back.
pub record HasBack (old : Peer) (batch : Batch) (new : Peer) : Type 0 where
  pub back : batch.connection ≡ old.connection → old.sent ≡ 0 → unsent new ≡ left batch ++ unsent old
  pub shut : batch.connection ≡ old.connection → new.is_shut ≡ batch.is_shut
  pub stuck : batch.connection ≡ old.connection → new.is_stuck ≡ false → left batch ≡ []
  pub free : batch.connection ≡ old.connection → left batch ≡ [] → new.is_stuck ≡ false
  pub other : (batch.connection ≡ old.connection → ⊥) → new ≡ record old { is_sending = false }
  pub rest : new ≡ record old {
    frames = new.frames;
    sent = new.sent;
    is_sending = false;
    is_shut = new.is_shut;
    is_stuck = new.is_stuck;
  }

-- Memory for what comes back was refused: it is lost, and the peer has ended, since a part of a frame may be sent. What
-- was put down meanwhile still waits.
pub record LosesBack (old : Peer) (batch : Batch) (new : Peer) : Type 0 where
  pub connection : batch.connection ≡ old.connection
  pub ends : IsSome new.end
  pub rest : new ≡ record old {
    is_sending = false;
    is_shut = batch.is_shut;
    is_stuck = true;
    end = option_or old.end (Some (Err NoMemory));
  }

-- The connection has taken the first of the bytes that weren't sent, in order and each once. The others are left.
pub record SendsSome (had : Option (List ℕ)) (old : Batch) (has : Option (List ℕ)) (new : Batch) : Type 0 where
  pub taken : List ℕ
  pub whole : left old ≡ taken ++ left new
  pub appends : Appends had has taken
  pub rest : new ≡ record old { sent = new.sent; is_shut = new.is_shut }

-- a server has the window
abbrev pub HasServer : Peer → Type 0
HasServer p = (p.is_welcome ≡ true) × (p.is_reopening ≡ false)

-- a window comes back, and isn't opened again yet
abbrev pub ComesAgain : Peer → Type 0
ComesAgain p = (p.was_welcome ≡ true) × (HasServer p → ⊥)

-- so much waits for standard output that the server isn't read
abbrev pub IsBehind : Peer → Type 0
IsBehind p = (65536 < length p.bytes.items) ⊎ (65536 < length p.early.items)

-- so much waits for the server that the input isn't read
abbrev pub IsFull : Peer → Type 0
IsFull p = (16777216 < length p.frames.items) × (p.is_shut ≡ false) × (p.end ≡ None)

-- What a window's program printed is put down, and the page reads it; or it is held while no server has the window.
pub record Prints (old new : Peer) (bytes : List ℕ) : Type 0 where
  pub sent : HasServer old
      → Sends old.frames.items new.frames.items Output bytes × (new.page.held ≡ old.page.held)
      × ReadsAll old.page.emulator bytes new.page.emulator
  pub held : (HasServer old → ⊥) → Holds old.page bytes new.page × (new.frames ≡ old.frames)
  pub rest : new ≡ record old { frames = new.frames; page = new.page }

-- what waited for standard output and for the sizes' file is being written
abbrev pub writing : Peer → Peer → Peer
writing old new = record old { bytes = new.bytes; sizes = new.sizes; is_writing = true }
