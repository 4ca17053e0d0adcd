use Rattle.session_input.proofs.Vocabulary.{ap, sym, subst, ◌∙◌, err_from_is_err_and, Command, Does}
use Rattle.std.proofs.Common.{rules}
use Rattle.command_lang.specs.declared.needs.Needs.{Needs}
use Rattle.session_input.proofs.Acting.{nobody_gives, given_nowhere}
use Rattle.session_input.proofs.orders.act.Goals as goal

pub returns-in_err-client : goal.returns-in_err-client
returns-in_err-client c =
    let p = err_from_is_err_and c.from_residual.result c.from_residual.ensures.1 in
    let old = c.args.context.now in (
      search rules,
      search rules,
      rw (p.1, p.2)
          (nobody_gives c.args.caller c.args.command.now old.state.now old.made.now c.in_err-client.field-0.0
          (ap (λ (n : Needs). n.client) (sym c.needs_of-needed.ensures) ∙ c.if-needed.true) c.in_err-client.ensures.err),
    )

pub returns-in_err-window : goal.returns-in_err-window
returns-in_err-window c =
    let p = err_from_is_err_and c.from_residual-in_err-window.result c.from_residual-in_err-window.ensures.1 in
    let old = c.args.context.now in (
      search rules,
      search rules,
      rw (p.1, p.2)
          (given_nowhere c.args.caller c.args.command.now old.state.now old.made.now c.in_err-window.field-0.0
          (ap (λ (n : Needs). n.client) (sym c.needs_of-needed.ensures) ∙ c.if-needed.false)
          (ap (λ (n : Needs). n.window) (sym c.needs_of-needed.ensures) ∙ c.if-needed-2.true)
          c.in_err-window.ensures.err),
    )

pub returns-in-Screen : goal.returns-in-Screen
returns-in-Screen c =
    let old = c.args.context.now in (
      search rules,
      search rules,
      subst
          (λ (o : Command). Does c.args.caller o old.state.now c.screen.result old.state.now old.made.now old.made.now)
          (sym c.in-Screen.is) (c.screen.ensures old.made.now),
    )

pub returns-in-Windows : goal.returns-in-Windows
returns-in-Windows c =
    let old = c.args.context.now in (
      search rules,
      search rules,
      subst
          (λ (o : Command). Does c.args.caller o old.state.now c.windows.result old.state.now old.made.now old.made.now)
          (sym c.in-Windows.is) (c.windows.ensures old.made.now),
    )
