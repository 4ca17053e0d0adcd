use Rattle.server_loop.proofs.Vocabulary.{◌≡◌, ◌∙◌, Option, None, Some, ap, sym, subst, Why, Connections, Guest}
use Rattle.server_loop.proofs.Vocabulary.{State, peer_at, state_of, with_peer, Loop}
use Rattle.server_connections.specs.Life.{without_guest}
use Rattle.server_steps.specs.Ending.{gone_at}
use Rattle.server_steps.specs.Telling.{went, with_any}
use Rattle.server_loop.specs.Turning.{Leaves}
use Rattle.server_loop.proofs.own.Loop.part_with.Goals as goal

pub returns-in_default : goal.returns-in_default
returns-in_default g c =
    let old = state_of c.args.self.now in
    let nobody : gone_at (peer_at c.args.key old) ≡ None = sym c.take_guest.ensures.guest ∙ c.in_default.is in
    subst (λ (o : Option (Guest × Option Why)). Leaves g.J.SessionSeat o
    (record (with_peer without_guest c.args.key old) { news = with_any (went o) old.news })
    (record old { connections = c.take_guest.new.connections })) (sym nobody)
    (ap (λ (s : Connections g.row.S.Denot). record old { connections = s }) c.take_guest.ensures.once)

pub returns : goal.returns
returns g c =
    let old = state_of c.args.self.now in
    let news = with_any (went (Some (c.in-Some.guest, c.in-Some.why))) old.news in
    subst (λ (o : Option (Guest × Option Why)). Leaves g.J.SessionSeat o
    (record (with_peer without_guest c.args.key old) { news = with_any (went o) old.news })
    (state_of c.tell.new.self)) c.in-Some.ensures.guest
    (subst (λ (s : State g.row.S.Denot g.row.J.Denot). Leaves g.J.SessionSeat (Some (c.in-Some.guest, c.in-Some.why))
    (record (with_peer without_guest c.args.key old) { news = news }) s)
    (sym (ap (λ (l : Loop g.row.S.Denot g.row.G.Denot g.row.J.Denot). state_of l) c.tell.ensures)) (
      c.remove.ensures.uncounted,
      ap (λ (s : Connections g.row.S.Denot). record old { connections = s; seat = c.remove.new.self; news = news })
          c.take_guest.ensures.once,
    ))
