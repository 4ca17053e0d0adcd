use Rattle.session_commands.proofs.Vocabulary.{ap, inr, rules, option_copied, window_before, NoWindow, caller_in}
use Rattle.session_model.specs.Tables as model
use Rattle.session_commands.proofs.Answering.{shown_on, not_shown_on}
use Rattle.session_commands.proofs.Members.{StandsAt, of_before, stand_there}
use Rattle.session_commands.proofs.Paging.{giver_there}
use Rattle.session_commands.proofs.Quiet.{quietly}
use Rattle.session_commands.proofs.pages.prev.Goals as goal

pub returns-in_default : goal.returns-in_default
returns-in_default c = quietly (search rules) (λ gives t st fit free.
    let by = giver_there t c.args.caller c.args.client c.args.context.now.state.now st gives in
    inr (not_shown_on t c.args.caller c.args.client by.0 by.1 (λ (d : model.Client). window_before t.windows
    (caller_in t c.args.caller).window) NoWindow _ (c.before-2.ensures t.windows (caller_in t c.args.caller).window
    st.windows (c.number_of-from.ensures t st)) (ap option_copied c.in_default.is)))

pub returns : goal.returns
returns c = quietly (search rules) (λ gives t st fit free.
    let by = giver_there t c.args.caller c.args.client c.args.context.now.state.now st gives in
    shown_on t c.args.caller c.args.client by.0 by.1 (λ (d : model.Client). window_before t.windows
    (caller_in t c.args.caller).window) NoWindow _ c.in-Some.window.now c.args.context.now.state.now
    c.show.new.context.state.now c.args.context.now.made.now c.show.new.context.made.now st fit
    (c.before-2.ensures t.windows (caller_in t c.args.caller).window st.windows (c.number_of-from.ensures t st))
    (ap option_copied c.in-Some.is) (of_before (StandsAt t.windows) t.windows (caller_in t c.args.caller).window
    (stand_there t.windows)) c.show.ensures.2)
