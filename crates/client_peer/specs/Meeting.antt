-- Which session a peer comes back to.
use Rattle.std.specs.Prelude.{◌≡◌, ◌≢◌, ◌↔◌, ◌+◌, ◌%◌, Bool, true, false, MatchBool, [], ◌++◌, ◌⊎◌, Some, None, Err}
use Rattle.client_words.specs.declared.fault.PeerFault.TheVariants.{Ended, OtherSession}
use Rattle.std.specs.Option.{option_or}
use Rattle.client_words.specs.declared.arguments.Subcommand.TheVariants.{Window}
use Rattle.client_typing.specs.Assisting.{at, beginning}
use Rattle.client_typing.specs.Following.{IsUnread, IsSet}
use Rattle.client_peer.specs.declared.meeting.Meeting.{Meeting}
use Rattle.client_peer.specs.declared.meeting.Meeting.TheVariants.{Same, Another, Older, Unnamed}
use Rattle.client_peer.specs.declared.meeting.SessionMark.{SessionMark}
use Rattle.client_peer.specs.declared.peer.Peer.{Peer}
use Rattle.client_peer.specs.Hearing.{size_line}
use Rattle.client_peer.specs.Reopening.{Reopens}
use Rattle.client_peer.specs.Sending.{HasServer, ComesAgain}

-- two names, and another one
abbrev pub IsAnother : Peer → SessionMark → Type 0
IsAnother p m =
    (p.session.items ≢ []) × (m.name.items ≢ []) × (p.session.items ≢ m.name.items)

-- A window may be opened again: its session had a name, the session at the socket has the same one, and whoever made
-- this socket has marked it so.
abbrev pub MayOpen : Peer → SessionMark → Type 0
MayOpen p m = (p.session.items ≢ []) × (p.session.items ≡ m.name.items) × (m.is_current ≡ true)

-- what a peer meets
pub record Meets (p : Peer) (m : SessionMark) (x : Meeting) : Type 0 where
  pub window : p.subcommand ≡ Window → (x ≡ Same ↔ MayOpen p m)
  pub other : (p.subcommand ≡ Window → ⊥) → (x ≡ Same ↔ (IsAnother p m → ⊥))
  pub another : x ≡ Another ↔ IsAnother p m
  pub older : x ≡ Older → (p.session.items ≡ m.name.items) × (m.is_current ≡ false)
  pub unnamed : x ≡ Unnamed → (p.session.items ≡ []) ⊎ (m.name.items ≡ [])

-- the server that let the peer in was still there after a mark was read
abbrev pub IsThere : Peer → Bool → Type 0
IsThere p is_here = (p.end ≡ None) × (is_here ≡ true)

-- a server has let the window in, which isn't opened again yet
abbrev pub WaitsToOpen : Peer → Type 0
WaitsToOpen p = (p.is_welcome ≡ true) × (p.is_reopening ≡ true) × (p.end ≡ None)

-- and that server was still there after the mark was read
abbrev pub IsToOpen : Peer → Bool → Type 0
IsToOpen p is_here = WaitsToOpen p × (is_here ≡ true)

-- The mark is that of the server which let the peer in: it isn't older than its socket.
abbrev pub IsOwn : Peer → SessionMark → Bool → Type 0
IsOwn p m is_here = IsThere p is_here × (m.is_current ≡ true)

-- a window takes no name that may be that of an earlier server, or of a later one
pub record Learns (old : Peer) (m : SessionMark) (is_here : Bool) (new : Peer) : Type 0 where
  pub window : old.subcommand ≡ Window → IsOwn old m is_here → new.session ≡ m.name
  pub other : (old.subcommand ≡ Window → ⊥) → new.session ≡ m.name
  pub keeps : old.subcommand ≡ Window → (IsOwn old m is_here → ⊥) → new ≡ old
  pub rest : new ≡ record old { session = new.session }

-- Another connection begins: nothing of the last one is left, but for what was put down for standard output and what is
-- held.
pub record IsFresh (old new : Peer) : Type 0 where
  pub frames : new.frames.items ≡ []
  pub connection : new.connection ≡ (old.connection + 1) % 4294967296
  pub typing : IsUnread new.typing × (at new.typing ≡ beginning) × IsSet old.typing new.typing
  pub input : new.early.items ≡ []
  pub rest : new ≡ record old {
    bytes = new.bytes;
    early = new.early;
    draws = new.draws;
    has_drawn = new.has_drawn;
    is_cut = false;
    is_covered = false;
    is_helping = false;
    frames = new.frames;
    sent = 0;
    is_stuck = false;
    is_shut = false;
    connection = new.connection;
    typing = new.typing;
    is_welcome = false;
    is_reopening = false;
    said = None;
    end = None;
  }

-- The peer ends for good: by what it lost, unless another session is there.
pub record StaysAway (old : Peer) (x : Meeting) (new : Peer) : Type 0 where
  pub another : x ≡ Another → new.end ≡ Some (Err OtherSession)
  pub other : x ≢ Another → new.end ≡ option_or (option_or old.loss old.end) (Some (Err Ended))
  pub unsure : new.is_unsure ≡ true ↔ x ≢ Another
  pub rest : new ≡ record old { is_final = true; is_unsure = new.is_unsure; end = new.end }

-- What a window's program prints goes to no server before the window is opened again: no word of a server puts down a
-- frame, and one that lets the window in again doesn't have it yet. Its program gets no input of such a server either.
pub record StaysClosed (old new : Peer) : Type 0 where
  pub subcommand : new.subcommand ≡ old.subcommand
  pub was : old.was_welcome ≡ true → new.was_welcome ≡ true
  pub frames : old.subcommand ≡ Window → new.frames ≡ old.frames
  pub again : old.subcommand ≡ Window → old.was_welcome ≡ true → HasServer new → HasServer old
  pub input : old.subcommand ≡ Window → ComesAgain old → new.bytes ≡ old.bytes

-- A window is opened again: what is sent then is its page, perhaps, and what was held. Its program gets the input that
-- waited for that.
pub record Opens (old new : Peer) (is_hidden : Bool) : Type 0 where
  pub is_told : Bool
  pub sends : Reopens (record old { page = record old.page { is_hidden = is_hidden } }) new is_told
  pub here : new.is_reopening ≡ false
  pub input : (new.bytes.items ≡ old.bytes.items ++ old.early.items) × (new.early.items ≡ [])
  pub size : MatchBool is_told (new.sizes ≡ old.sizes)
      (new.sizes.items ≡ old.sizes.items ++ size_line old.rows old.columns)
  pub rest : new ≡ record old {
    bytes = new.bytes;
    early = new.early;
    sizes = new.sizes;
    frames = new.frames;
    page = new.page;
    page_number = old.number;
    is_reopening = false;
  }
