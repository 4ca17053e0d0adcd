use Rattle.session_input.proofs.Vocabulary.{None, refl, err_from_is_err_and, client_at, reply_of}
use Rattle.session_input.proofs.Answered.{was_read, was_unread}
use Rattle.session_input.proofs.key_step.give_keys.Goals as goal

pub returns-in_err-taken-clause-step : goal.returns-in_err-taken-clause-step
returns-in_err-taken-clause-step c = λ t st fit.
    let p = err_from_is_err_and c.from_residual.result c.from_residual.ensures.1 in
    rw (p.1, p.2)
    (was_unread t (client_at t c.args.client) c.args.bytes.now c.in_err-taken.field-0.0
    c.args.state.now c.keys.new.state c.args.step.now c.keys.new.step (c.in_err-taken.ensures.answer t st fit) st
    c.in_err-taken.ensures.err)

pub returns-clause-step : goal.returns-clause-step
returns-clause-step c = λ t st fit.
    let count = c.in_ok-taken.taken in
    was_read t (client_at t c.args.client) c.args.bytes.now count (reply_of count 0 0 None)
    c.keys.new.state c.args.step.now c.keys.new.step (c.in_ok-taken.ensures.answer t st fit) refl
