use Rattle.session_view.proofs.Vocabulary.{◌∙◌, Some, refl, both_back, window_at, WindowStands}
use Rattle.session_view.proofs.Panes.{there_by_acts}
use Rattle.session_view.proofs.Alike.{by_rights}
use Rattle.session_view.proofs.sameness.shows_both.Goals as goal

pub returns : goal.returns
returns c = λ t st fit.
    let row = both_back WindowStands (window_at t c.in-Some.serial) (Some c.in-Some-get._window.now)
    c.in-Some-get._window.now (c.in-Some-get.ensures.finds t.windows st.windows) refl in
    let here = there_by_acts t c.args.user c.args.shown c.in-Some.serial row.0 c.in-Some.is row.1 fit in
    by_rights t c.args.user c.args.other c.args.shown c.in-Some.serial row.0 c.in-Some.is row.1 c.is_ok-may.result
    c.is_ok.result
    (c.is_ok-may.ensures.value ∙ c.may.ensures.answer t.edition t.owner t.acts st.acl here)
    (c.is_ok.ensures.value ∙ c.may-2.ensures.answer t.edition t.owner t.acts st.acl here)
