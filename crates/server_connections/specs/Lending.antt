-- A connection that is lent to be changed.
use Rattle.std.specs.Prelude.{ℕ, Option}
use Rattle.std.specs.Borrow.{LendsIf, RattleType, MutBor, Fml}
use Rattle.slab.specs.Slab.{with_value}
use Rattle.server_connections.specs.Marked.{with_mark}
use Rattle.server_connections.specs.declared.connections.Connections.{Connections}
use Rattle.server_connections.specs.declared.peer.Peer.{Peer}
use Rattle.server_connections.specs.contracts.connections.Connections.{the_row}
use Rattle.server_connections.specs.contracts.peer.Peer.{the_row as row_of_peer}

-- a key is marked, and nothing else changes
abbrev pub awoken : {S : Type 0} → Connections S → ℕ → Connections S
awoken s key = record s { awake = with_mark s.awake key }

-- it is marked, and its connection is this
abbrev pub touched : {S : Type 0} → Connections S → ℕ → Peer S → Connections S
touched s key peer = record s { awake = with_mark s.awake key; peers = with_value s.peers key peer }

-- the connection of a key, which is marked whether there is one or not
abbrev pub LendsTouched : (S : RattleType) →
    MutBor (Connections S.Denot) → ℕ → Option (MutBor (Peer S.Denot)) → Fml
LendsTouched S s key r = LendsIf (the_row S) (row_of_peer S) s r (touched s.now key) (awoken s.now key)
