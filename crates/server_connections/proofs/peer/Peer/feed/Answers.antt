use Rattle.std.proofs.Common.{◌++◌, sym, subst}
use Rattle.server_inbox.specs.Asking.{Stands}
use Rattle.server_connections.specs.declared.peer.Peer.{Peer}
use Rattle.server_connections.proofs.peer.Peer.feed.Goals.{then-matches, else-matches}
use Rattle.server_connections.proofs.peer.Peer.feed.Goals as goal

pub returns-clause-stands : goal.returns-clause-stands
returns-clause-stands g c = λ taken stream none sound h.
    elim c.if-matches.branch [
      | then-matches w ↦ subst (λ (p : Peer g.row.S.Denot). Stands p.inbox p.reader taken
          (stream ++ c.args.bytes.now)) (sym w.self-is) (w.take_all.ensures.stands taken stream none sound h)
      | else-matches w ↦ subst (λ (p : Peer g.row.S.Denot). Stands p.inbox p.reader taken
          (stream ++ c.args.bytes.now)) (sym w.self-is) (w.take.ensures.stands taken stream none sound h)
    ]
