use Rattle.std.proofs.Common.{ap, refl}
use Rattle.web_relay.proofs.Vocabulary.{Visitor}
use Rattle.web_relay.proofs.relay.Relay.lose.Goals as goal

pub returns-in-Ok : goal.returns-in-Ok
returns-in-Ok g c = record {
  told = λ _. record {
    tells = c.in-Ok.ensures.tells;
    other = c.in-Ok.ensures.other;
    identity = c.in-Ok.ensures.identity;
  };
  closed = λ closed. ap (λ (v : Visitor). record c.args.self.now { visitor = v }) (c.in-Ok.ensures.other closed);
  identity = c.in-Ok.ensures.identity;
  over = λ e. e;
  rest = refl;
}
