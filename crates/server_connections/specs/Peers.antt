-- What is to be done with a connection, and which one is a client or a window of the session.
use Rattle.std.specs.Prelude.{◌≡◌, ◌⊎◌, ◌==◌, ◌&&◌, ◌||◌, ◌<◌, ◌≤◌, ℕ, Bool, true, false, not, length}
use Rattle.std.specs.Prelude.{[], Option, Some, None, is_none, IsSomeAnd}
use Rattle.slab.specs.Slab.{Slab, get}
use Rattle.attach_proto.specs.declared.kind.Side.TheVariants.{Server}
use Rattle.server_inbox.specs.Asking.{Stands, is_empty}
use Rattle.server_typing.specs.Sized.{no_size}
use Rattle.server_typing.specs.Typed.{untyped}
use Rattle.server_connections.specs.declared.peer.Awaits.{Awaits}
use Rattle.server_connections.specs.declared.peer.Awaits.TheVariants as awaited
use Rattle.server_connections.specs.declared.peer.Peer.{Peer}
use Rattle.server_connections.specs.declared.peer.Role.{Role}
use Rattle.server_connections.specs.declared.peer.Role.TheVariants as role
use Rattle.server_connections.specs.declared.peer.Stage.{Stage}
use Rattle.server_connections.specs.declared.peer.Stage.TheVariants as stage

abbrev pub is_stranger : Role → Bool
is_stranger role.Stranger = true
is_stranger other = false

abbrev pub is_open : Stage → Bool
is_open stage.Open = true
is_open other = false

-- it is sent what the session says
abbrev pub listens : Stage → Bool
listens stage.Open = true
listens stage.Leaving = true
listens other = false

abbrev pub is_closed : Stage → Bool
is_closed stage.Closed = true
is_closed other = false

module _ {S : Type 0} where
  -- A new connection of this stream: nobody is known to have it, nothing was read or typed, and nothing is to be done
  -- or sent.
  pub record IsNewcomer (stream : S) (number : ℕ) (is_extra : Bool) (peer : Peer S) : Type 0 where
    pub unread : Stands peer.inbox peer.reader [] []
    pub empty : is_empty peer.inbox ≡ true
    pub sound : peer.inbox.is_broken ≡ false
    pub nothing_typed : peer.inbox.typed ≡ untyped
    pub never_sized : peer.inbox.sizing ≡ no_size
    pub peer_is : peer ≡ record {
      stream = Some stream;
      reader = record { side = Server; rest = []; fault = None };
      turn = record { unsent = []; typed = []; told = false; has_ended = false };
      role = role.Stranger;
      leaves = role.Stranger;
      stage = stage.Open;
      number = number;
      user = None;
      is_extra = is_extra;
      has_more = true;
      has_hung_up = false;
      is_full = false;
      inbox = peer.inbox;
      types_into = None;
      full = None;
      is_held = false;
      look = None;
      guest = None;
      why = None;
      awaited = None;
    }

  -- there may be something to read
  abbrev pub has_more : Peer S → Bool
  has_more peer = peer.has_more && not peer.inbox.is_broken

  -- its first message didn't come, or isn't done yet
  abbrev pub is_new : Peer S → Bool
  is_new peer = is_stranger peer.role && is_open peer.stage

  -- something is to be read or done at once
  abbrev pub is_due : Peer S → Bool
  is_due peer = ((has_more peer || not (is_empty peer.inbox)) && is_open peer.stage) && not peer.is_held

  -- its first message is waited for, or that it reads its last frame
  abbrev pub is_awaited_at : Stage → Peer S → Bool
  is_awaited_at stage.Open peer = is_stranger peer.role && is_empty peer.inbox
  is_awaited_at stage.Ending peer = true
  is_awaited_at other peer = false

  abbrev pub is_awaited : Peer S → Bool
  is_awaited peer = is_awaited_at peer.stage peer

  -- nothing is to be done with it until something comes from it or is put into it
  abbrev pub is_at_rest : Peer S → Bool
  is_at_rest peer =
      (((not (is_stranger peer.role) && is_stranger peer.leaves) && is_open peer.stage)
      && not ((has_more peer || peer.is_held) || not (is_empty peer.inbox)))
      && (length peer.turn.unsent == 0)

  -- nothing is left to do with it
  abbrev pub is_done : Peer S → Bool
  is_done peer = is_closed peer.stage && is_stranger peer.leaves

  abbrev pub awaits : Awaits → Peer S → Bool
  awaits awaited.Work peer = is_due peer
  awaits awaited.Ration peer = peer.is_held
  awaits awaited.Look peer = (is_new peer && peer.is_held) && is_none peer.look
  awaits awaited.End peer = is_awaited peer

  -- the connection of this key waits for this
  abbrev pub AwaitsAt : Slab (Peer S) → Awaits → ℕ → Type 0
  AwaitsAt peers what key = IsSomeAnd (get peers key) (λ peer. awaits what peer ≡ true)

  -- the connection of this key is this to the session, and is sent what that says
  abbrev pub IsAt : Slab (Peer S) → Role → ℕ → Type 0
  IsAt peers role key = IsSomeAnd (get peers key) (λ peer. (peer.role ≡ role) × (listens peer.stage ≡ true))

  -- of the connections of a role the first one, from a key on and then from 0 on
  pub record IsFirstFrom (peers : Slab (Peer S)) (role : Role) (from key : ℕ) : Type 0 where
    pub is : IsAt peers role key
    pub ahead : from ≤ key → (k : ℕ) → from ≤ k → k < key → ¬ (IsAt peers role k)
    pub round : key < from → (k : ℕ) → (from ≤ k) ⊎ (k < key) → ¬ (IsAt peers role k)

  -- no connection needs a mark there: none has the key, or nothing is to be done with it
  abbrev pub rests : Option (Peer S) → Bool
  rests None = true
  rests (Some peer) = is_done peer || is_at_rest peer

  -- a connection is there with which all is done
  abbrev pub goes : Option (Peer S) → Bool
  goes None = false
  goes (Some peer) = is_done peer
