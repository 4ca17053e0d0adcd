use Rattle.std.proofs.Common.{◌≡◌, ℕ, List}
use Rattle.server_connections.specs.Streaming.{IsWrittenTo, WritesFor}
use Rattle.server_connections.proofs.peer.Peer.write.Given as goal

pub record Wrote (written : Type 0) (on : ℕ → Type 0) (counter : ℕ) : Type 0 where
  pub stood : written
  pub count : ℕ
  pub counted : count ≡ counter
  pub so_far : on count

abbrev pub invariant-writes : goal.invariant-writes
invariant-writes g l = Wrote
    ((put : List ℕ) → IsWrittenTo g.S.PeerStream.holds put l.initial.self
    → IsWrittenTo g.S.PeerStream.holds put l.self)
    (λ (n : ℕ). WritesFor g.S.PeerStream.writes n l.initial.self l.self)
    l.counter
