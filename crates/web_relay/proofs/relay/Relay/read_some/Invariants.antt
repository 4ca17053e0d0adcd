use Rattle.web_relay.proofs.Vocabulary.{◌-◌, Relay, IsToRead, ReadsOnce, Repeats}
use Rattle.web_client.specs.Asking.{Asks}
use Rattle.web_relay.proofs.relay.Relay.read_some.Given as goal

-- whatever comes of the other reads, it comes of all
abbrev pub invariant-reads : goal.invariant-reads
invariant-reads g l = record {
  asks : Asks l.fn.self.visitor.identity l.self.visitor.identity;
  later : (new : Relay g.row.S.Denot) → Repeats IsToRead (ReadsOnce g.S.WebStream l.around.site.now l.around.now)
      (16 - l.counter) l.self new
      → Repeats IsToRead (ReadsOnce g.S.WebStream l.around.site.now l.around.now) 16 l.fn.self new;
}
