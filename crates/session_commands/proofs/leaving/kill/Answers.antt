use Rattle.session_commands.proofs.Vocabulary.{subst, Ok, None, rules, err_from_is_err_and, does, Answers, caller_in}
use Rattle.session_commands.proofs.Vocabulary.{closing}
use Rattle.command_lang.specs.declared.command.Command.TheVariants as command
use Rattle.session_model.specs.declared.event.Reason.TheVariants as reason
use Rattle.session_commands.proofs.LeavingRows.{kill_is, refused_alike}
use Rattle.session_commands.proofs.Quiet.{quietly}
use Rattle.session_commands.proofs.leaving.kill.Goals as goal

pub returns-in_err-close : goal.returns-in_err-close
returns-in_err-close c = quietly (search rules) (λ k at t st fit passed.
    let p = err_from_is_err_and c.from_residual.result c.from_residual.ensures.1 in
    let window = c.args.window in
    rw (p.1, p.2)
    (refused_alike (closing window reason.Killed t) (does t (caller_in t k) command.Kill) c.in_err-close.field-0.0
    (kill_is t k window at) (c.in_err-close.ensures.1 t st fit)))

pub returns : goal.returns
returns c = quietly (search rules) (λ k at t st fit passed.
    subst (λ a. Answers t a (Ok None) c.close.new.context.state.now c.args.context.now.made.now
    c.close.new.context.made.now) (kill_is t k c.args.window at) (c.in_ok-close.ensures.1 t st fit))
