use Rattle.std.proofs.Common.{ℕ, ap, refl}
use Rattle.web_client.specs.declared.visitor.Visitor.{Visitor}
use Rattle.web_relay.proofs.hall.Hall.show.Goals as goal

pub returns-in-Ok : goal.returns-in-Ok
returns-in-Ok g c = record {
  closed = λ closed. ap (λ (v : Visitor). record c.args.relay.now { visitor = v }) (c.in-Ok.ensures.closed closed).0;
  sees = λ on. record {
    shows = λ is_open due. c.in-Ok.ensures.shows is_open c.requires due;
    sends = λ is_open. c.in-Ok.ensures.sends is_open c.requires;
    later = λ not_due. c.in-Ok.ensures.later not_due;
    needed = c.in-Ok.ensures.needed;
    closed = λ closed. c.in-Ok.ensures.closed closed;
    rest = c.in-Ok.ensures.same;
  };
  identity = ap (λ (v : Visitor). v.identity) c.in-Ok.ensures.same;
  over = λ e. e;
  rest = refl;
  shown = c.in-Ok.ensures.keeps;
  counted = ap (λ (n : ℕ). record c.args.self.now { client = c.show_shared.new.shared; audience = n })
      c.saturating_add-self.ensures;
}
