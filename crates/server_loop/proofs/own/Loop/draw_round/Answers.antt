use Rattle.server_loop.proofs.Vocabulary.{ℕ, Option, subst, state_of}
use Rattle.server_loop.specs.Drawing.{HandsOn}
use Rattle.server_loop.proofs.own.Loop.draw_round.Goals as goal

pub returns : goal.returns
returns g c =
    let asked = state_of c.draw_some-next.new.self in
    record {
      told = state_of c.tell_all.new.self;
      tells = c.tell_all.ensures;
      next = c.draw_some-next.result;
      asked = asked;
      draws = c.draw_some-next.ensures;
      handed = subst (λ (from : Option ℕ). HandsOn g.J.SessionSeat g.S.PeerStream
          (record asked { draws = record asked.draws { from = from } }) (state_of c.hand_on.new.self))
          c.next_from-self.ensures c.hand_on.ensures;
    }
