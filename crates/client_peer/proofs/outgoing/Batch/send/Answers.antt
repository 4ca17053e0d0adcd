use Rattle.client_peer.proofs.Sending.{sends_then}
use Rattle.client_peer.proofs.outgoing.Batch.send.Goals as goal
use Rattle.client_peer.proofs.outgoing.Batch.send.Goals.{then-self-len-via-then-self-len}
use Rattle.client_peer.proofs.outgoing.Batch.send.Goals.{then-self-len-via-else-self-len+then-not-write_once}

pub writes-preserved : goal.writes-preserved
writes-preserved g c =
    sends_then (g.S.Write.contents c.args.stream.now) (g.S.Write.contents c.writes.stream)
    (g.S.Write.contents c.write_once.new.stream) c.args.self.now c.writes.self c.write_once.new.self
    c.writes.invariant c.write_once.ensures

pub returns-else-not-write_once : goal.returns-else-not-write_once
returns-else-not-write_once g c =
    sends_then (g.S.Write.contents c.args.stream.now) (g.S.Write.contents c.writes.stream)
    (g.S.Write.contents c.write_once.new.stream) c.args.self.now c.writes.self c.write_once.new.self
    c.writes.invariant c.write_once.ensures

pub returns-then-self-len : goal.returns-then-self-len
returns-then-self-len g c = elim c.then-self-len.branch [
  | then-self-len-via-then-self-len w ↦ rw (w.self-is, w.stream-is) c.writes.invariant
  | then-self-len-via-else-self-len+then-not-write_once w ↦ rw (w.self-is, w.stream-is)
      (sends_then (g.S.Write.contents c.args.stream.now) (g.S.Write.contents c.writes.stream)
      (g.S.Write.contents w.write_once.new.stream) c.args.self.now c.writes.self w.write_once.new.self
      c.writes.invariant w.write_once.ensures)
]
