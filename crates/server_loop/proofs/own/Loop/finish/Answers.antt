use Rattle.server_loop.proofs.Vocabulary.{subst, Why, state_of}
use Rattle.server_steps.specs.Ending.{EachKey, FinishesAt}
use Rattle.server_loop.proofs.own.Loop.finish.Goals as goal

pub returns : goal.returns
returns g c =
    let mid = state_of c.hand_out.new.self in
    record {
      mid = mid;
      handed = c.hand_out.ensures;
      told = c.finish.new.connections;
      finished = subst (λ (why : Why). EachKey (FinishesAt g.S.PeerStream why) mid.connections.peers.capacity 0
          mid.connections c.finish.new.connections) c.why.ensures c.finish.ensures;
      settled = c.sweep.ensures;
    }
