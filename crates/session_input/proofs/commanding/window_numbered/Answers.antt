use Rattle.session_input.proofs.Vocabulary.{Some, refl, ap, sym, ◌∙◌, option_and_then, with_number}
use Rattle.session_input.proofs.Numbered.{numbered_there}
use Rattle.session_input.proofs.commanding.window_numbered.Goals as goal

pub returns : goal.returns
returns c = λ t st fit.
    numbered_there t c.args.state.now c.from.result (Some c.in_ok-window.window.now)
    c.in_ok-window.window.now st fit c.in_ok-window.ensures refl
    ∙ ap (with_number t.windows) c.from.ensures
    ∙ ap (option_and_then (with_number t.windows)) (sym c.in_ok-number.was)
