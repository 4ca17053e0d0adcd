use Rattle.session_commands.proofs.Vocabulary.{ap, inr, refl, ◌∙◌, Some, None, rules, option_copied, option_and_then}
use Rattle.session_commands.proofs.Vocabulary.{NoWindow, window_at}
use Rattle.session_model.specs.Tables as model
use Rattle.session_model.specs.Deeds.{former_of}
use Rattle.session_commands.proofs.Answering.{shown_on, not_shown_on}
use Rattle.session_commands.proofs.Members.{of_row, found_row}
use Rattle.session_commands.proofs.Paging.{giver_there, row_stands, row_there}
use Rattle.session_commands.proofs.Quiet.{quietly}
use Rattle.session_commands.proofs.pages.other.Goals as goal

pub returns-in_default : goal.returns-in_default
returns-in_default c = quietly (search rules) (λ k gives t st fit free.
    let by = giver_there t k c.args.client c.args.context.now.state.now st gives in
    absurd (row_there by.0 _ _ (c.get.ensures.stands t.clients st.clients) by.1.at (ap option_copied c.in_default.is)))

pub returns-in_default-former_of : goal.returns-in_default-former_of
returns-in_default-former_of c = quietly (search rules) (λ k gives t st fit free.
    let by = giver_there t k c.args.client c.args.context.now.state.now st gives in
    let stands = row_stands by.0 c.in-Some.row.now _ _ (c.get.ensures.stands t.clients st.clients) by.1.at
    (ap option_copied c.in-Some.is) in
    inr (not_shown_on t k c.args.client by.0 by.1 (λ (d : model.Client). option_and_then (window_at t) (former_of d))
    NoWindow _ (found_row t (former_of by.0) None None tt (c.former_of.ensures by.0 stands ∙ c.in_default-former_of.is))
    refl))

pub returns-in_default-get : goal.returns-in_default-get
returns-in_default-get c = quietly (search rules) (λ k gives t st fit free.
    let by = giver_there t k c.args.client c.args.context.now.state.now st gives in
    let stands = row_stands by.0 c.in-Some.row.now _ _ (c.get.ensures.stands t.clients st.clients) by.1.at
    (ap option_copied c.in-Some.is) in
    inr (not_shown_on t k c.args.client by.0 by.1 (λ (d : model.Client). option_and_then (window_at t) (former_of d))
    NoWindow _ (found_row t (former_of by.0) (Some c.in-Some-former_of.former) _
    (c.get-2.ensures.finds t.windows st.windows) (c.former_of.ensures by.0 stands ∙ c.in-Some-former_of.is))
    (ap option_copied c.in_default-get.is)))

pub returns : goal.returns
returns c = quietly (search rules) (λ k gives t st fit free.
    let by = giver_there t k c.args.client c.args.context.now.state.now st gives in
    let stands = row_stands by.0 c.in-Some.row.now _ _ (c.get.ensures.stands t.clients st.clients) by.1.at
    (ap option_copied c.in-Some.is) in
    shown_on t k c.args.client by.0 by.1 (λ (d : model.Client). option_and_then (window_at t) (former_of d)) NoWindow _
    c.in-Some-get.window.now c.args.context.now.state.now c.show.new.context.state.now c.args.context.now.made.now
    c.show.new.context.made.now st fit (found_row t (former_of by.0) (Some c.in-Some-former_of.former) _
    (c.get-2.ensures.finds t.windows st.windows) (c.former_of.ensures by.0 stands ∙ c.in-Some-former_of.is))
    (ap option_copied c.in-Some-get.is) (of_row t (former_of by.0)) c.show.ensures.2)
