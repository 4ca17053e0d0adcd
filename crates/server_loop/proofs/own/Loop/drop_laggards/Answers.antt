use Rattle.server_loop.proofs.Vocabulary.{rules, state_of, Loop}
use Rattle.server_loop.specs.Writing.{DropsLaggard}
use Rattle.server_loop.proofs.Passing.{passed}
use Rattle.server_loop.proofs.own.Loop.drop_laggards.Goals as goal

pub returns : goal.returns
returns g c = passed (λ (l : Loop g.row.S.Denot g.row.G.Denot g.row.J.Denot). state_of l)
    (DropsLaggard g.J.SessionSeat g.S.PeerStream) _ _ _ _ _ _ c.each_awake.ensures
    (λ shown left key p. search rules)
