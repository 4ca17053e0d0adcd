use Rattle.client_peer.specs.Sending.{SendsSome}
use Rattle.client_peer.proofs.outgoing.Batch.send.Given as goal

abbrev pub invariant-writes : goal.invariant-writes
invariant-writes g l = SendsSome (g.S.Write.contents l.fn.stream) l.fn.self (g.S.Write.contents l.stream) l.self
