use Rattle.web_client.proofs.Adding.{more}
use Rattle.web_relay.proofs.relay.Relay.read_browser.Goals as goal

pub returns-then-not-was_open-clause-asks : goal.returns-then-not-was_open-clause-asks
returns-then-not-was_open-clause-asks g c =
    more c.args.self.now.visitor.identity c.take_rest.new.self.visitor.identity
    c.read_some.new.self.visitor.identity c.take_rest.ensures.asks c.read_some.ensures.asks

pub returns-else-not-was_open-clause-asks : goal.returns-else-not-was_open-clause-asks
returns-else-not-was_open-clause-asks g c =
    more c.args.self.now.visitor.identity c.take_rest.new.self.visitor.identity
    c.read_some.new.self.visitor.identity c.take_rest.ensures.asks c.read_some.ensures.asks

pub returns-then-not-was_open-clause-reads : goal.returns-then-not-was_open-clause-reads
returns-then-not-was_open-clause-reads g c =
    (c.take_rest.new.self, c.take_rest.ensures.takes, c.read_some.ensures.reads)

pub returns-else-not-was_open-clause-reads : goal.returns-else-not-was_open-clause-reads
returns-else-not-was_open-clause-reads g c =
    (c.take_rest.new.self, c.take_rest.ensures.takes, c.read_some.ensures.reads)
