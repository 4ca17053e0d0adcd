use Rattle.server_loop.proofs.Vocabulary.{◌-◌, ℕ, Some, None, subst, arith, DrawsFrom, state_of}
use Rattle.server_loop.proofs.Drawn.{ended, next_drawn, stopped}
use Rattle.server_loop.proofs.own.Loop.draw_some.Goals as goal

pub keys-init : goal.keys-init
keys-init g c = λ next new rest. subst (λ (n : ℕ). DrawsFrom g.J.SessionSeat (n - c.args.from) c.args.from 16
    (state_of c.args.self.now) next new) c.end-key-end.ensures.end rest

pub keys-preserved : goal.keys-preserved
keys-preserved g c = λ next new rest. c.keys.invariant next new (next_drawn g.J.SessionSeat c.end-key-end.result
    c.keys.key c.keys.left c.in-Some.rest (state_of c.keys.self) (state_of c.draw_next.new.self) next new
    (omega arith) c.in-Some.ensures rest)

pub returns-in-None : goal.returns-in-None
returns-in-None g c = c.keys.invariant (Some c.keys.key) (state_of c.draw_next.new.self) (stopped
    g.J.SessionSeat c.end-key-end.result c.keys.key c.keys.left (state_of c.keys.self)
    (state_of c.draw_next.new.self) (omega arith) c.in-None.ensures)

pub returns : goal.returns
returns g c = c.keys.invariant None (state_of c.keys.self) (ended g.J.SessionSeat c.end-key-end.result
    c.keys.key c.keys.left (state_of c.keys.self) (omega arith))
