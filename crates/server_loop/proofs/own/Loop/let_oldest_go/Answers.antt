use Rattle.server_loop.proofs.Vocabulary.{ap, arith, inl, inr, refl, subst, State, state_of, Loop}
use Rattle.server_steps.specs.Sending.{WritesAt}
use Rattle.server_loop.specs.Leaving.{Loses}
use Rattle.server_loop.proofs.own.Loop.let_oldest_go.Goals as goal

pub returns-in_default : goal.returns-in_default
returns-in_default g c = inr (inl (c.oldest_new.ensures.none c.in_default.is, refl))

pub returns : goal.returns
returns g c = inr (inr (
  omega (arith, c.count_new.ensures),
  c.in-Some.key,
  c.in-Some.ensures.some,
  (
    c.write.result,
    c.write.new.connections,
    subst (λ (l : Loop g.row.S.Denot g.row.G.Denot g.row.J.Denot). WritesAt g.S.PeerStream c.in-Some.key
        l.connections c.write.result c.write.new.connections) c.dismiss.ensures c.write.ensures,
    state_of c.lose.new.self,
    subst (λ (s : State g.row.S.Denot g.row.J.Denot). Loses g.J.SessionSeat c.in-Some.key s
        (state_of c.lose.new.self)) (ap (λ (l : Loop g.row.S.Denot g.row.G.Denot g.row.J.Denot). record (state_of l) {
          connections = c.write.new.connections;
        }) c.dismiss.ensures) c.lose.ensures,
    c.sweep.ensures,
  ),
))
