use Rattle.session_commands.proofs.Vocabulary.{subst, Ok, None, rules, err_from_is_err_and, does, Answers, caller_in}
use Rattle.session_commands.proofs.Vocabulary.{detaching}
use Rattle.command_lang.specs.declared.command.Command.TheVariants as command
use Rattle.session_commands.proofs.LeavingRows.{detach_is, refused_alike}
use Rattle.session_commands.proofs.Quiet.{quietly}
use Rattle.session_commands.proofs.leaving.detach.Goals as goal

pub returns-in_err-detach_client : goal.returns-in_err-detach_client
returns-in_err-detach_client c = quietly (search rules) (λ k gives t st fit passed.
    let p = err_from_is_err_and c.from_residual.result c.from_residual.ensures.1 in
    let client = c.args.client in
    rw (p.1, p.2)
    (refused_alike (detaching client t) (does t (caller_in t k) command.Detach) c.in_err-detach_client.field-0.0
    (detach_is t k client gives.client_is) (c.in_err-detach_client.ensures.1 t st fit)))

pub returns : goal.returns
returns c = quietly (search rules) (λ k gives t st fit passed.
    subst (λ a. Answers t a (Ok None) c.detach_client.new.context.state.now c.args.context.now.made.now
    c.detach_client.new.context.made.now) (detach_is t k c.args.client gives.client_is)
    (c.in_ok-detach_client.ensures.1 t st fit))
