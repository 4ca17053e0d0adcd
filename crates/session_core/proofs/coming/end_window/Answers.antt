use Rattle.session_core.proofs.Vocabulary.{◌≡◌, Ok, sym, rules, ◌==◌, err_from_is_err_and, Window, window_at, Deed}
use Rattle.session_model.specs.declared.event.Reason.TheVariants as reason
use Rattle.session_model.specs.Deeds.{closes}
use Rattle.session_core.proofs.Settled.{was_settled, was_unsettled}
use Rattle.session_core.proofs.coming.end_window.Goals as goal

pub returns-in_err-close_window-clause-step : goal.returns-in_err-close_window-clause-step
returns-in_err-close_window-clause-step c = λ t st fit.
    let window = c.args.window in
    let deed : Window → Deed = λ w. closes (λ (v : Window). v.serial == window) reason.Detached t in
    let p = err_from_is_err_and c.from_residual.result c.from_residual.ensures.1 in
    let back : c.close_window.new.context.state.now ≡ c.state-1.given.0 = search rules in
    rw (p.1, p.2, sym back)
    (was_unsettled t deed (window_at t window) c.in_err-close_window.field-0.0 c.args.state.now
    c.close_window.new.context.state.now c.args.step.now c.close_window.new.context.made.now
    (c.in_err-close_window.ensures.1 t st fit) st c.in_err-close_window.ensures.0.1.0)

pub returns-clause-step : goal.returns-clause-step
returns-clause-step c = λ t st fit.
    let window = c.args.window in
    let deed : Window → Deed = λ w. closes (λ (v : Window). v.serial == window) reason.Detached t in
    let back : c.close_window.new.context.state.now ≡ c.state-1.given.0 = search rules in
    let settled = c.in_ok-close_window.ensures.1 t st fit in
    was_settled t deed (window_at t window) settled.0 (Ok c.made_so.result) c.close_window.new.context.state.now
    c.leave.new.state c.args.step.now c.close_window.new.context.made.now c.leave.new.made settled.1
    (sym c.made_so.ensures) settled.3
    (c.leave.ensures t settled.0 (c.of-focuses.ensures t st fit.sound) (rw (sym back) settled.3.stands))
