use Rattle.server_inbox.proofs.Gathering.{IsGathering}
use Rattle.server_inbox.proofs.inbox.Inbox.gather_some.Given as goal

abbrev pub invariant-gathering : goal.invariant-gathering
invariant-gathering l = IsGathering l.now l.initial.self l.initial.reader l.self l.reader l.counter
