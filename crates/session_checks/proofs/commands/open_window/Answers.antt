use Rattle.std.proofs.Common.{Some, ap, sym, ◌∙◌}
use Rattle.std.specs.Option.{option_map, option_and_then}
use Rattle.session_model.specs.Tables as model
use Rattle.session_model.specs.Tables.{window_at}
use Rattle.session_checks.proofs.Standing.{window_found}
use Rattle.session_checks.proofs.commands.open_window.Goals as goal

pub returns-in-Some-get : goal.returns-in-Some-get
returns-in-Some-get c = λ t st.
    let found = window_found t c.args.state.now st c.in-Some.window _ c.in-Some-get.ensures.finds in
    ap Some (sym found.2)
    ∙ ap (option_map (λ (w : model.Window). w.serial))
    (sym (ap (option_and_then (window_at t)) c.in-Some.is ∙ found.1))
