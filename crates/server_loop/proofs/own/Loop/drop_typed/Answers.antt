use Rattle.server_loop.proofs.Vocabulary.{◌-◌, subst, arith, Role, state_of, DropsTyped}
use Rattle.server_loop.proofs.Dropping.{all_dropped, dropped_next, no_window, nobody_next}
use Rattle.server_loop.proofs.own.Loop.drop_typed.Goals as goal

pub returns-in_default : goal.returns-in_default
returns-in_default g c =
    subst (λ (r : Role). DropsTyped g.J.SessionSeat r c.args.key (state_of c.args.self.now)
    (state_of c.args.self.now)) c.role_at.ensures
    (no_window g.J.SessionSeat c.args.key c.role_at.result (state_of c.args.self.now) c.in_default.not-Window)

pub typists-init : goal.typists-init
typists-init g c = λ new rest. record { dropped = rest }

pub typists-preserved : goal.typists-preserved
typists-preserved g c = λ new rest. c.typists.invariant new
    (dropped_next g.J.SessionSeat c.args.key c.in-Window.window 4294967295 c.typists.counter c.typists.last
    c.in-Some.user (state_of c.typists.self) (state_of c.drop_of.new.self) new (omega arith) c.in-Some.ensures.some
    c.drop_of.ensures rest)

pub returns-in_default-typist_after : goal.returns-in_default-typist_after
returns-in_default-typist_after g c =
    subst (λ (r : Role). DropsTyped g.J.SessionSeat r c.args.key (state_of c.args.self.now)
    (state_of c.typists.self)) c.in-Window.ensures
    (c.typists.invariant (state_of c.typists.self)
    (nobody_next g.J.SessionSeat c.args.key c.in-Window.window (4294967295 - c.typists.counter)
    c.typists.last (state_of c.typists.self) (c.typist_after.ensures.none c.in_default-typist_after.is)))

pub returns : goal.returns
returns g c =
    subst (λ (r : Role). DropsTyped g.J.SessionSeat r c.args.key (state_of c.args.self.now)
    (state_of c.typists.self)) c.in-Window.ensures
    (c.typists.invariant (state_of c.typists.self)
    (all_dropped g.J.SessionSeat c.args.key c.in-Window.window 4294967295 c.typists.counter
    c.typists.last (state_of c.typists.self) c.typists-test.false))
