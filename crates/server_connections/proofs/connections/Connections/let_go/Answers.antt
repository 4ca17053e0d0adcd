use Rattle.std.proofs.Common.{◌≡◌, ◌∙◌, ◌+◌, sym, ap, inr}
use Rattle.slab.specs.Slab.{Slab, get}
use Rattle.server_connections.specs.Lending.{touched}
use Rattle.server_connections.specs.declared.connections.Connections.{Connections}
use Rattle.server_connections.specs.declared.peer.Peer.{Peer}
use Rattle.server_connections.specs.declared.peer.Role.TheVariants as role
use Rattle.server_connections.proofs.connections.Connections.let_go.Goals as goal

pub returns : goal.returns
returns g c =
    let next : c.key_of.new.self ≡ record c.args.self.now { next = c.in-Some.key + 1 } = c.in-Some.ensures.next in
    let peers : c.key_of.new.self.peers ≡ c.args.self.now.peers = ap
    (λ (s : Connections g.row.S.Denot). s.peers) next in
    inr (
      c.in-Some.key,
      record {
        first = c.in-Some.ensures.some;
        peer = c.in-Some-touch.peer.now;
        was = ap (λ (s : Slab (Peer g.row.S.Denot)). get s c.in-Some.key) (sym peers)
            ∙ sym c.in-Some-touch.ensures.value;
        new_is = ap
            (λ (s : Connections g.row.S.Denot).
            touched s c.in-Some.key (record c.end.new.self { role = role.Stranger })) next
            ∙ ap (λ (p : Peer g.row.S.Denot). touched (record c.args.self.now { next = c.in-Some.key + 1 })
            c.in-Some.key (record p { role = role.Stranger })) c.end.ensures;
      },
    )
