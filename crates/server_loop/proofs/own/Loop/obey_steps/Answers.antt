use Rattle.server_loop.proofs.Vocabulary.{◌≡◌, Bool, true, false, subst, arith, rules, Steps, state_of}
use Rattle.server_loop.proofs.Stepping.{all_steps, last_step, stepped}
use Rattle.server_loop.proofs.own.Loop.obey_steps.Goals as goal

pub steps-preserved : goal.steps-preserved
steps-preserved g c = λ new rest.
    let yes : c.obey_step.result ≡ true = search rules in
    c.steps.invariant new
    (stepped (Steps g.J.SessionSeat c.args.key) 8 c.steps.counter (state_of c.steps.self) (state_of c.obey_step.new.self) new (omega arith)
    (subst (λ (b : Bool). Steps g.J.SessionSeat c.args.key (state_of c.steps.self) b (state_of c.obey_step.new.self)) yes c.obey_step.ensures) rest)

pub returns-then-not-obey_step : goal.returns-then-not-obey_step
returns-then-not-obey_step g c =
    let no : c.obey_step.result ≡ false = search rules in
    c.steps.invariant (state_of c.obey_step.new.self)
    (last_step (Steps g.J.SessionSeat c.args.key) 8 c.steps.counter (state_of c.steps.self) (state_of c.obey_step.new.self) (omega arith)
    (subst (λ (b : Bool). Steps g.J.SessionSeat c.args.key (state_of c.steps.self) b (state_of c.obey_step.new.self)) no c.obey_step.ensures))

pub returns : goal.returns
returns g c = c.steps.invariant (state_of c.steps.self)
    (all_steps (Steps g.J.SessionSeat c.args.key) 8 c.steps.counter (state_of c.steps.self) (omega arith))
