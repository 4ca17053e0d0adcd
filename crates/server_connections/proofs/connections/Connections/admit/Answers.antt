use Rattle.std.proofs.Common.{◌∙◌, ap}
use Rattle.slab.specs.Slab.{Slab, get}
use Rattle.server_connections.specs.declared.peer.Peer.{Peer}
use Rattle.server_connections.proofs.connections.Connections.admit.Goals as goal

pub returns-clause-others : goal.returns-clause-others
returns-clause-others g c = λ key apart.
    let marks = c.mark.ensures.others.others key (λ e. apart (e ∙ c.vacant_key-next.ensures)) in
    let before = c.reserve.ensures.same key in (
      c.in_ok-insert.ensures.updates.others key (λ e. apart (e ∙ c.in_ok-insert.ensures.key)),
      (λ is. before.0 (marks.0 is), λ is. marks.1 (before.1 is)),
    )

pub returns-in_err-insert-clause-others : goal.returns-in_err-insert-clause-others
returns-in_err-insert-clause-others g c = λ key apart. (
  ap (λ (s : Slab (Peer g.row.S.Denot)). get s key) c.in_err-insert.ensures.err,
  c.reserve.ensures.same key,
)
