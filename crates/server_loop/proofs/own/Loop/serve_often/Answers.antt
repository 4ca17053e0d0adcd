use Rattle.server_loop.proofs.Vocabulary.{◌≡◌, Bool, true, false, subst, arith, rules, ServesOnce, state_of}
use Rattle.server_loop.proofs.Stepping.{all_steps, last_step, stepped}
use Rattle.server_loop.proofs.own.Loop.serve_often.Goals as goal

pub reads-preserved : goal.reads-preserved
reads-preserved g c = λ new rest.
    let yes : c.serve_once.result ≡ true = search rules in
    c.reads.invariant new
    (stepped (ServesOnce g.J.SessionSeat g.S.PeerStream c.args.key) 16 c.reads.counter (state_of c.reads.self) (state_of c.serve_once.new.self) new (omega arith)
    (subst (λ (b : Bool). ServesOnce g.J.SessionSeat g.S.PeerStream c.args.key (state_of c.reads.self) b (state_of c.serve_once.new.self)) yes c.serve_once.ensures) rest)

pub returns-then-not-serve_once : goal.returns-then-not-serve_once
returns-then-not-serve_once g c =
    let no : c.serve_once.result ≡ false = search rules in
    c.reads.invariant (state_of c.serve_once.new.self)
    (last_step (ServesOnce g.J.SessionSeat g.S.PeerStream c.args.key) 16 c.reads.counter (state_of c.reads.self) (state_of c.serve_once.new.self) (omega arith)
    (subst (λ (b : Bool). ServesOnce g.J.SessionSeat g.S.PeerStream c.args.key (state_of c.reads.self) b (state_of c.serve_once.new.self)) no c.serve_once.ensures))

pub returns : goal.returns
returns g c = c.reads.invariant (state_of c.reads.self)
    (all_steps (ServesOnce g.J.SessionSeat g.S.PeerStream c.args.key) 16 c.reads.counter (state_of c.reads.self) (omega arith))
