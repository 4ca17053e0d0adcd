use Rattle.session_commands.proofs.Vocabulary.{ap, sym, true, false, ◌≡◌, inl, inr, ◌-◌, ◌∷◌, ◌++◌, [], ◌∙◌, refl}
use Rattle.session_commands.proofs.Vocabulary.{rules, option_copied, err_from_is_err_and, Size, if_true}
use Rattle.std.specs.Prelude.{is_ok}
use Rattle.session_commands.proofs.Paging.{giver_there, row_stands, row_there}
use Rattle.session_commands.proofs.Sizes.{window_there, too_small, good, for_memory, fits_there}
use Rattle.session_commands.proofs.Quiet.{quietly}
use Rattle.session_commands.proofs.window.fit.Goals as goal

pub returns-in_default : goal.returns-in_default
returns-in_default c = quietly (search rules) (λ gives t st fit free.
    let by = giver_there t c.args.caller c.args.client c.args.context.now.state.now st gives in
    absurd (row_there by.0 _ _ (c.get.ensures.stands t.clients st.clients) by.1.at (ap option_copied c.in_default.is)))

pub returns-then-rows-lt2 : goal.returns-then-rows-lt2
returns-then-rows-lt2 c = quietly (search rules) (λ gives t st fit free.
    let by = giver_there t c.args.caller c.args.client c.args.context.now.state.now st gives in
    let stands = row_stands by.0 c.in-Some.row.now _ _ (c.get.ensures.stands t.clients st.clients) by.1.at
    (ap option_copied c.in-Some.is) in
    let row = window_there t c.args.caller.window c.window_of.result c.in-Some-window_of.window
    (c.window_of.ensures t st) c.in-Some-window_of.is in
    inr (too_small t c.args.caller c.args.client c.in-Some.row.now by.0 by.1 stands c.in-Some-window_of.window row.0
    row.1 row.2 c.in_ok-region.region (c.in_ok-region.ensures.value by.0 stands) c.if-rows-lt2.true))

pub returns-then-not-is_window_size : goal.returns-then-not-is_window_size
returns-then-not-is_window_size c = quietly (search rules) (λ gives t st fit free.
    let by = giver_there t c.args.caller c.args.client c.args.context.now.state.now st gives in
    let stands = row_stands by.0 c.in-Some.row.now _ _ (c.get.ensures.stands t.clients st.clients) by.1.at
    (ap option_copied c.in-Some.is) in
    let row = window_there t c.args.caller.window c.window_of.result c.in-Some-window_of.window
    (c.window_of.ensures t st) c.in-Some-window_of.is in
    let sized = good t c.args.caller c.args.client c.in-Some.row.now by.0 by.1 stands c.in-Some-window_of.window row.0
    row.1 row.2 c.in_ok-region.region (c.in_ok-region.ensures.value by.0 stands) c.if-rows-lt2.false in
    let never : true ≡ false = sym sized ∙ (sym c.is_window_size.ensures ∙ c.if-not-is_window_size.true) in
    absurd (cc (never)))

pub returns-in_err-resize : goal.returns-in_err-resize
returns-in_err-resize c = quietly (search rules) (λ gives t st fit free.
    let by = giver_there t c.args.caller c.args.client c.args.context.now.state.now st gives in
    let stands = row_stands by.0 c.in-Some.row.now _ _ (c.get.ensures.stands t.clients st.clients) by.1.at
    (ap option_copied c.in-Some.is) in
    let row = window_there t c.args.caller.window c.window_of.result c.in-Some-window_of.window
    (c.window_of.ensures t st) c.in-Some-window_of.is in
    let full = for_memory t c.args.caller c.args.client c.in-Some.row.now by.0 by.1 stands c.in-Some-window_of.window
    row.0 row.1 row.2 c.in_ok-region.region (c.in_ok-region.ensures.value by.0 stands) c.if-rows-lt2.false
    c.in_err-resize.field-0.0 (c.in_err-resize.ensures.answer t.windows st.windows) in
    let exit = err_from_is_err_and c.from_residual-in_err-resize.result c.from_residual-in_err-resize.ensures.1 in
    rw exit.1 (inl (exit.2 ∙ full)))

pub returns : goal.returns
returns c = quietly (search rules) (λ gives t st fit free.
    let by = giver_there t c.args.caller c.args.client c.args.context.now.state.now st gives in
    let stands = row_stands by.0 c.in-Some.row.now _ _ (c.get.ensures.stands t.clients st.clients) by.1.at
    (ap option_copied c.in-Some.is) in
    let row = window_there t c.args.caller.window c.window_of.result c.in-Some-window_of.window
    (c.window_of.ensures t st) c.in-Some-window_of.is in
    let size = Size c.in-Some-window_of.window (c.in_ok-region.region.rows - 1) c.in_ok-region.region.columns in
    fits_there t c.args.caller c.args.client c.in-Some.row.now by.0 by.1 stands c.in-Some-window_of.window row.0 row.1
    row.2 c.in_ok-region.region (c.in_ok-region.ensures.value by.0 stands) c.if-rows-lt2.false c.in_ok-resize.field-0
    c.args.context.now.state.now c.resize.new.self c.args.context.now.made.now _ st
    (c.in_ok-resize.ensures.answer t.windows st.windows) refl (c.push.ensures.items
    ∙ (if_true (is_ok c.push.result) _ _ (ap is_ok c.unwrap.ensures)
    ∙ ap (λ xs. xs ++ size ∷ []) c.reserve.ensures.items)))
