use Rattle.session_commands.proofs.Vocabulary.{rules, err_from_is_err_and, retitled}
use Rattle.command_lang.specs.declared.command.Command.TheVariants as command
use Rattle.session_commands.proofs.Changing.{change_done, change_refused, title_changes}
use Rattle.session_commands.proofs.Quiet.{quietly}
use Rattle.session_commands.proofs.window.title.Goals as goal

pub returns : goal.returns
returns c = quietly (search rules) (λ k at t st fit passed.
    change_done t c.args.context.now.state.now k c.args.window (command.Title c.args.text.now)
    (retitled c.args.text.now) (title_changes t c.args.text.now) at st passed c.in_ok-retitle.field-0 c.retitle.new.self
    c.args.context.now.made.now (c.in_ok-retitle.ensures.answer t.windows st.windows))

pub returns-in_err-retitle : goal.returns-in_err-retitle
returns-in_err-retitle c = quietly (search rules) (λ k at t st fit passed.
    let p = err_from_is_err_and c.from_residual.result c.from_residual.ensures.1 in
    rw (p.1, p.2)
    (change_refused t c.args.context.now.state.now k c.args.window (command.Title c.args.text.now)
    (retitled c.args.text.now) (title_changes t c.args.text.now) at st passed c.in_err-retitle.field-0.0
    (record c.args.context.now.state.now { windows = c.retitle.new.self }) c.args.context.now.made.now
    c.args.context.now.made.now (c.in_err-retitle.ensures.answer t.windows st.windows)))
