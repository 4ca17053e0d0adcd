use Rattle.session_commands.proofs.Vocabulary.{inr, rules, err_from_is_err_and, with_new_number}
use Rattle.command_lang.specs.declared.command.Command.TheVariants as command
use Rattle.session_commands.proofs.Changing.{change_done, change_refused, number_changes}
use Rattle.session_commands.proofs.Quiet.{quietly}
use Rattle.session_commands.proofs.window.number.Goals as goal

pub returns : goal.returns
returns c = quietly (search rules) (λ k at t st fit passed.
    change_done t c.args.context.now.state.now k c.args.window (command.Number c.args.n)
    (with_new_number t.windows c.args.n) (number_changes t c.args.n) at st passed c.in_ok-renumber.field-0
    c.renumber.new.self c.args.context.now.made.now (c.in_ok-renumber.ensures.answer t.windows st.windows))

pub returns-in_err-renumber : goal.returns-in_err-renumber
returns-in_err-renumber c = quietly (search rules) (λ k at t st fit passed.
    let p = err_from_is_err_and c.from_residual.result c.from_residual.ensures.1 in
    rw (p.1, p.2)
    (change_refused t c.args.context.now.state.now k c.args.window (command.Number c.args.n)
    (with_new_number t.windows c.args.n) (number_changes t c.args.n) at st passed c.in_err-renumber.field-0.0
    (record c.args.context.now.state.now { windows = c.renumber.new.self }) c.args.context.now.made.now
    c.args.context.now.made.now (inr (c.in_err-renumber.ensures.answer t.windows st.windows))))
