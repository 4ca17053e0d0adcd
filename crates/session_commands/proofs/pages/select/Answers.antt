use Rattle.session_commands.proofs.Vocabulary.{ap, inr, rules, option_copied, window_named, Windows, NoSuchWindow}
use Rattle.session_model.specs.Tables as model
use Rattle.session_commands.proofs.Answering.{shown_on, not_shown_on}
use Rattle.session_commands.proofs.Members.{StandsAt, of_named, stand_there}
use Rattle.session_commands.proofs.Paging.{giver_there}
use Rattle.session_commands.proofs.Quiet.{quietly}
use Rattle.session_commands.proofs.pages.select.Goals as goal

pub returns-in_default : goal.returns-in_default
returns-in_default c = quietly (search rules) (λ k gives t st fit free.
    let by = giver_there t k c.args.client c.args.context.now.state.now st gives in
    inr (not_shown_on t k c.args.client by.0 by.1 (λ (d : model.Client). window_named t.windows c.args.word.now)
    (Windows NoSuchWindow) _ (c.by_name.ensures t.windows st.windows) (ap option_copied c.in_default.is)))

pub returns : goal.returns
returns c = quietly (search rules) (λ k gives t st fit free.
    let by = giver_there t k c.args.client c.args.context.now.state.now st gives in
    shown_on t k c.args.client by.0 by.1 (λ (d : model.Client). window_named t.windows c.args.word.now)
    (Windows NoSuchWindow) _ c.in-Some.window.now c.args.context.now.state.now c.show.new.context.state.now
    c.args.context.now.made.now c.show.new.context.made.now st fit (c.by_name.ensures t.windows st.windows)
    (ap option_copied c.in-Some.is) (of_named (StandsAt t.windows) t.windows c.args.word.now (stand_there t.windows))
    c.show.ensures.2)
