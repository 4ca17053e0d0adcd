use Rattle.session_commands.proofs.Vocabulary.{◌∙◌, ◌++◌, ◌∷◌, [], ap, inr, arith, rules, err_from_is_err_and, Closed}
use Rattle.session_commands.proofs.Vocabulary.{Gone}
use Rattle.session_model.specs.declared.event.Peer.TheVariants as peer
use Rattle.session_commands.proofs.Pushed.{pushed}
use Rattle.session_commands.proofs.Ending.{closing_done, closing_refused}
use Rattle.session_commands.proofs.Quiet.{quietly}
use Rattle.session_commands.proofs.closing.close.Goals as goal

pub returns-in_err-close : goal.returns-in_err-close
returns-in_err-close c = quietly (search rules) (λ t st fit.
    let p = err_from_is_err_and c.from_residual-in_err-close.result c.from_residual-in_err-close.ensures.1 in
    rw (p.1, p.2)
    (inr (closing_refused t c.args.why c.args.window c.in_err-close.field-0.0
    (c.in_err-close.ensures.answer t.windows st.windows))))

pub returns : goal.returns
returns c = quietly (search rules) (λ t st fit.
    let s = c.args.context.now.state.now in
    let made = c.args.context.now.made.now in
    let window = c.args.window in
    let answer = c.in_ok-close.ensures.answer t.windows st.windows in
    closing_done t c.args.why window s c.window_closed.new.self c.closed.new.self c.close.new.self
    c.close_window.new.self made (record { acts = c.push.new.self; effects = c.push-2.new.self }) st fit
    c.window_closed.ensures c.closed.ensures c.close_window.ensures answer.0 answer.1 answer.2
    (pushed c.push.result c.reserve.new.self.items c.push.new.self.items (Closed window)
    (c.push.ensures.succeeds (omega (arith, c.in_ok-reserve.ensures.ok))) c.push.ensures.items
    ∙ ap (λ xs. xs ++ Closed window ∷ []) c.reserve.ensures.items) (pushed c.push-2.result c.reserve-2.new.self.items
    c.push-2.new.self.items (Gone (peer.Window window) c.args.why) (c.push-2.ensures.succeeds
    (omega (arith, c.in_ok-reserve-2.ensures.ok))) c.push-2.ensures.items
    ∙ ap (λ xs. xs ++ Gone (peer.Window window) c.args.why ∷ []) c.reserve-2.ensures.items))
