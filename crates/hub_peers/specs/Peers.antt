-- The seats of clients and windows. A peer belongs to the seat that attached or opened it. Serials
-- count from 0, so a list has the seat of each serial at its index.
use Rattle.std.specs.Prelude.{ℕ, Bool, ◌<◌, List, [], ◌∷◌, ◌++◌, if◌then◌else◌, length, Option, slice_get}
use Rattle.std.specs.List.{AllByRecursion}
use Rattle.session.specs.event.Effect.{Effect}
use Rattle.session.specs.event.Effect.TheVariants.{Input, Deliver, Say, Size, Gone}
use Rattle.session.specs.event.Peer.TheVariants as peer
use Rattle.session.specs.Trace.{EventValue, Reply}
use Rattle.hub_trail.specs.Peers.{attaches, opens}
use Rattle.hub_peers.specs.declared.Peers.{Peers}

-- the seats of clients, and those of windows, by serial
pub record Owners : Type 0 where
  pub clients : List ℕ
  pub windows : List ℕ

abbrev pub owners_of : Peers → Owners
owners_of p = record { clients = p.clients.items; windows = p.windows.items }

-- if a peer comes, the seat is added for the next serial
abbrev pub with_peer : Bool → ℕ → List ℕ → List ℕ
with_peer comes seat seats = if comes then seats ++ seat ∷ [] else seats

abbrev pub with_peers : EventValue → Reply → ℕ → Owners → Owners
with_peers event reply seat o = record {
  clients = with_peer (attaches event reply) seat o.clients;
  windows = with_peer (opens event reply) seat o.windows;
}

-- each peer belongs to one of these seats, which are below the count
pub record AreSeats (count : ℕ) (o : Owners) : Type 0 where
  pub clients : AllByRecursion (λ seat. seat < count) o.clients
  pub windows : AllByRecursion (λ seat. seat < count) o.windows

-- the seat of the peer that an effect is for; None if there is no such peer
abbrev pub seat_of : Owners → Effect → Option ℕ
seat_of o (Input window bytes) = slice_get o.windows window
seat_of o (Deliver client bytes) = slice_get o.clients client
seat_of o (Say client text) = slice_get o.clients client
seat_of o (Size window rows columns) = slice_get o.windows window
seat_of o (Gone (peer.Window window) why) = slice_get o.windows window
seat_of o (Gone (peer.Client client) why) = slice_get o.clients client

-- the effect's peer has come before
abbrev pub HasPeer : Owners → Effect → Type 0
HasPeer o (Input window bytes) = window < length o.windows
HasPeer o (Deliver client bytes) = client < length o.clients
HasPeer o (Say client text) = client < length o.clients
HasPeer o (Size window rows columns) = window < length o.windows
HasPeer o (Gone (peer.Window window) why) = window < length o.windows
HasPeer o (Gone (peer.Client client) why) = client < length o.clients
