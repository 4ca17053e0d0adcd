use Rattle.web_streams.specs.Streaming.{WritesFor}
use Rattle.web_streams.proofs.outgoing.write_all.Given as goal

abbrev pub invariant-writes : goal.invariant-writes
invariant-writes g l =
    WritesFor g.S.WebStream.writes l.counter l.fn.stream l.fn.bytes.items l.stream l.bytes.items
