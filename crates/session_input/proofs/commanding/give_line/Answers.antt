use Rattle.session_input.proofs.Vocabulary.{Option, None, Ok, Err, refl, sym, subst, ◌∙◌, err_from_is_err_and, Window}
use Rattle.session_input.proofs.Vocabulary.{ruling, reply_of, Ruled}
use Rattle.session_input.proofs.Answered.{was_ruled_out, was_obeyed}
use Rattle.session_input.proofs.commanding.give_line.Goals as goal

pub returns-in_err-text-clause-step : goal.returns-in_err-text-clause-step
returns-in_err-text-clause-step c = λ t st fit.
    let user = c.args.user in
    let order = c.in_ok-command.command in
    let r = c.in_err-text.field-0.0 in
    let before = c.args.step.now in
    let after = c.order.new.step in
    let p = err_from_is_err_and c.from_residual-in_err-text.result
    c.from_residual-in_err-text.ensures.1 in
    rw (p.1, p.2)
    (was_ruled_out t user c.args.window c.args.line.now
    (sym (c.is_known.ensures t st) ∙ c.if-not-is_known.false) order c.in_ok-command.ensures r
    c.args.state.now c.order.new.state before after
    (subst (λ (o : Option Window). Ruled t
    (ruling t (record { user = user; client = None; window = o }) order) (Err r) c.order.new.state
    before after) (c.window_numbered.ensures t st fit) (c.in_err-text.ensures.ruled t st fit))
    st c.in_err-text.ensures.whole.0)

pub returns-clause-step : goal.returns-clause-step
returns-clause-step c = λ t st fit.
    let user = c.args.user in
    let order = c.in_ok-command.command in
    let lists = c.in_ok-text.text in
    let before = c.args.step.now in
    let second = c.order.new.step in
    was_obeyed t user c.args.window c.args.line.now
    (sym (c.is_known.ensures t st) ∙ c.if-not-is_known.false) order c.in_ok-command.ensures lists
    (reply_of 0 0 0 lists) c.order.new.state c.leave.new.state before second c.leave.new.made
    (subst (λ (o : Option Window). Ruled t
    (ruling t (record { user = user; client = None; window = o }) order) (Ok lists) c.order.new.state
    before second) (c.window_numbered.ensures t st fit) (c.in_ok-text.ensures.ruled t st fit))
    refl (λ d did. c.leave.ensures t d (c.of-focuses.ensures t st fit.sound) did)
