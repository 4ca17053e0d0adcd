use Rattle.hub_ledger.proofs.Filing.{copied_there}
use Rattle.hub_ledger.proofs.filed_session.FiledSession.copied.Goals as goal

pub returns-then-asks : goal.returns-then-asks
returns-then-asks c =
    copied_there c.args.asks c.args.self.now.entries.list.entries c.args.place c.at.result.now c.copy.result c.ok.result
    c.if-asks.true c.at.ensures c.copy.ensures c.ok.ensures.value
