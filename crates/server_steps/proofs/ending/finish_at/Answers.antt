use Rattle.std.proofs.Common.{◌≡◌, ◌∙◌, ap, false, refl, subst, sym, inr}
use Rattle.server_connections.specs.declared.peer.Peer.{Peer}
use Rattle.server_connections.specs.declared.peer.Role.TheVariants.{Stranger}
use Rattle.server_steps.specs.Ending.{finished}
use Rattle.server_steps.specs.Sending.{IsWrittenOut}
use Rattle.server_steps.proofs.ending.finish_at.Goals as goal

pub returns : goal.returns
returns g c =
    let e : c.mark_room.new.self ≡ finished c.args.why c.in-Some.peer.now = c.mark_room.ensures
    ∙ ap (λ (p : Peer g.row.S.Denot). record p { role = Stranger; leaves = Stranger; is_full = false }) c.part.ensures
    in inr (
      c.in-Some.peer.now,
      c.write.new.self,
      sym c.in-Some.ensures.value,
      subst (λ (p : Peer g.row.S.Denot). IsWrittenOut g.S.PeerStream p c.write.new.self) e (record {
        full = c.write.ensures.full;
        writes = c.write.ensures.writes;
        written = c.write.ensures.written;
      }),
      refl,
    )
