use Rattle.server_loop.proofs.Vocabulary.{Some, None, refl, subst, Role, state_of}
use Rattle.server_loop.specs.Serving.{Obeys}
use Rattle.server_loop.specs.Typing.{millis_of}
use Rattle.server_loop.proofs.own.Loop.obey_first.Goals as goal

pub returns-in-Some : goal.returns-in-Some
returns-in-Some g c =
    subst (λ (r : Role). Obeys g.J.SessionSeat r (millis_of c.args.self.now.now) c.args.key (state_of c.args.self.now)
    (Some c.in-Some.progress) (state_of c.typed.new.self)) c.in-Client.ensures
    (Some c.in-Some.progress, state_of c.typed.new.self, c.in-Some.ensures, (refl, refl))

pub returns-in-None : goal.returns-in-None
returns-in-None g c =
    subst (λ (r : Role). Obeys g.J.SessionSeat r (millis_of c.args.self.now.now) c.args.key (state_of c.args.self.now)
    c.obey_next.result (state_of c.obey_next.new.self)) c.in-Client.ensures
    (None, state_of c.typed.new.self, c.in-None.ensures, c.obey_next.ensures)
