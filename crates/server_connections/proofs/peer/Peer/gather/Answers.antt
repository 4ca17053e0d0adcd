use Rattle.std.proofs.Common.{ap}
use Rattle.server_inbox.specs.declared.inbox.Inbox.{Inbox}
use Rattle.server_connections.proofs.peer.Peer.gather.Goals as goal

pub returns : goal.returns
returns g c =
    let h = c.gather.ensures in (
      h.0,
      h.1,
      ap (λ (inbox : Inbox). record c.args.self.now { inbox = inbox; reader = c.gather.new.reader }) h.2,
    )
