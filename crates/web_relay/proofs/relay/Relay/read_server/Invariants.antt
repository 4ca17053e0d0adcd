use Rattle.web_relay.proofs.Vocabulary.{◌-◌, Relay, HearsOnce, IsToHear, Repeats}
use Rattle.web_relay.specs.Relaying.{HearsServer}
use Rattle.web_relay.proofs.relay.Relay.read_server.Given as goal

abbrev pub invariant-reads : goal.invariant-reads
invariant-reads g l = (new : Relay g.row.S.Denot) → Repeats IsToHear (HearsOnce g.S.WebStream)
    (16 - l.counter) l.self new
    → HearsServer g.S.WebStream l.fn.self new
