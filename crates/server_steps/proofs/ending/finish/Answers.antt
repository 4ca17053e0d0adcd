use Rattle.std.proofs.Common.{ℕ, arith, subst}
use Rattle.server_steps.specs.Ending.{EachKey, FinishesAt}
use Rattle.server_steps.proofs.Visiting.{all_visited, from_first, visited_next}
use Rattle.server_steps.proofs.ending.finish.Goals as goal

pub keys-init : goal.keys-init
keys-init g c = λ new rest.
    from_first (FinishesAt g.S.PeerStream c.args.why) c.end-key-end.result c.args.connections.now new rest

pub keys-preserved : goal.keys-preserved
keys-preserved g c = λ new rest. c.keys.invariant new
    (visited_next (FinishesAt g.S.PeerStream c.args.why) c.end-key-end.result c.keys.key
    c.keys.connections c.finish_at.new.connections new (omega arith) c.finish_at.ensures rest)

pub returns : goal.returns
returns g c =
    subst (λ (n : ℕ). EachKey (FinishesAt g.S.PeerStream c.args.why) n 0
    c.args.connections.now c.keys.connections) c.end-key-end.ensures.end
    (c.keys.invariant c.keys.connections
    (all_visited (FinishesAt g.S.PeerStream c.args.why) c.end-key-end.result c.keys.key
    c.keys.connections (omega arith)))
