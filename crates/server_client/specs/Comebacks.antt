-- How a peer comes back.
use Rattle.std.specs.Prelude.{◌≡◌, ◌≢◌, ◌↔◌, ◌+◌, ◌<◌, ◌++◌, ◌∷◌, ◌⊎◌, ℕ, Bool, true, false, List, [], None, codes}
use Rattle.std.specs.Prelude.{Contains}
use Rattle.attach_proto.specs.declared.kind.Side.TheVariants as side
use Rattle.client_peer.specs.declared.meeting.Meeting.{Meeting}
use Rattle.client_peer.specs.declared.meeting.Meeting.TheVariants.{Older, Same}
use Rattle.client_peer.specs.declared.meeting.SessionMark.{SessionMark}
use Rattle.client_peer.specs.declared.peer.Peer.{Peer}
use Rattle.client_peer.specs.Meeting.{IsFresh, IsToOpen, Meets, Opens, StaysAway}
use Rattle.client_peer.specs.Returning.{ComesBack}
use Rattle.client_peer.specs.Showing.{BeginsAnew}
use Rattle.client_words.specs.declared.arguments.Arguments.{Arguments}
use Rattle.server_client.specs.Lines.{IsHidden}
use Rattle.server_client.specs.Marks.{Disk, IsHere}
use Rattle.server_client.specs.declared.shared.PeerSeat.{PeerSeat}
use Rattle.server_client.specs.declared.waiting.Comeback.{Comeback}

-- A client lets at most 60 tries pass while windows are pending, and counts anew after that.
pub record LetsPass (old : Comeback) (is_pending passes : Bool) (new : Comeback) : Type 0 where
  pub lets : passes ≡ true ↔ ((is_pending ≡ true) × (old.held < 60))
  pub counts : passes ≡ true → new.held ≡ old.held + 1
  pub anew : passes ≡ false → new.held ≡ 0
  pub rest : new ≡ record old { held = new.held }

-- A peer waits at most 60 tries for a mark that isn't older than the socket, and counts anew while no socket is there.
pub record WaitsForMark (old : Comeback) (met : Meeting) (is_here waits : Bool) (new : Comeback) : Type 0 where
  pub lets : waits ≡ true ↔ ((met ≡ Older) × (old.older < 60))
  pub counts : waits ≡ true → is_here ≡ true → new.older ≡ old.older + 1
  pub anew : ((waits ≡ false) ⊎ (is_here ≡ false)) → new.older ≡ 0
  pub rest : new ≡ record old { older = new.older }

-- A peer that neither met its session nor waits for a mark stays away.
pub record Judges (met : Meeting) (waits : Bool) (old new : Peer) : Type 0 where
  pub goes_on : ((met ≡ Same) ⊎ (waits ≡ true)) → new ≡ old
  pub stays : met ≢ Same → waits ≡ false → StaysAway old met new

-- Another connection begins, whose messages come whole: nothing was read of it.
pub record BeginsAgain (old new : PeerSeat) : Type 0 where
  pub peer : BeginsAnew old.peer new.peer × IsFresh old.peer new.peer
  pub reader : new.reader ≡ record { side = side.Peer; rest = []; fault = None }
  pub stream : new.stream ≡ None

-- A window that a server has let in is opened again by a mark, unless it is another session's, and the next server is
-- told its page, unless that is hidden. If its server is gone since, or a later one has let the window in with a page
-- of another number, what was seen may be of another server.
pub record OpensAgain (disk : Disk) (a : Arguments) (mark : SessionMark) (number : ℕ) (old : PeerSeat) (met : Meeting)
    (new : PeerSeat)
    : Type 0 where
  pub is_here : Bool
  pub here : IsHere disk old.stream is_here
  pub meets : IsToOpen old.peer is_here → old.peer.page_number ≡ number → Meets old.peer mark met
  pub gone : (IsToOpen old.peer is_here × (old.peer.page_number ≡ number) → ⊥) → met ≡ Older
  pub opens : met ≡ Same
      → (is_hidden : Bool) × IsHidden disk a old.peer.page_number is_hidden × Opens old.peer new.peer is_hidden
  pub stays : met ≢ Same → new ≡ old
  pub rest : new ≡ record old { peer = new.peer }

-- the folder of a path: what comes before its last '/'
pub record IsIn (path folder : List ℕ) : Type 0 where
  pub name : List ℕ
  pub whole : path ≡ folder ++ 0x2F ∷ name
  pub last : Contains name 0x2F → ⊥

-- A socket has a place if its folder is there, or if its path names no folder, or the root alone.
pub record HasPlace (disk : Disk) (socket : List ℕ) (has_place : Bool) : Type 0 where
  pub is : ((folder : List ℕ) × IsIn socket folder × (folder ≢ []) × disk.stands folder has_place)
      ⊎ (((folder : List ℕ) → IsIn socket folder → folder ≡ []) × (has_place ≡ true))

-- what is seen beside the socket after an end: a file if it was planned, and the place
pub record IsSeen (disk : Disk) (a : Arguments) (is_planned has_place : Bool) : Type 0 where
  pub planned : disk.stands (a.socket.now ++ codes ".again") is_planned
  pub place : HasPlace disk a.socket.now has_place

-- Whether a peer comes back depends on what is seen beside the socket.
abbrev pub Returns : Disk → Arguments → ℕ → Bool → Peer → Peer → Type 0
Returns disk a now comes old new =
    (is_planned has_place : Bool) × IsSeen disk a is_planned has_place
    × ComesBack old now is_planned has_place comes new
