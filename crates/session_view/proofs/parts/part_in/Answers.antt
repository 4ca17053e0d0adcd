use Rattle.session_view.proofs.Vocabulary.{ℕ, Some, refl, sym, ap, ◌∙◌, Screen, both_back, window_at, moved_back}
use Rattle.session_view.proofs.Vocabulary.{WindowStands}
use Rattle.view.specs.Granted as view
use Rattle.session_view.proofs.Panes.{hidden, readable, there_by_acts}
use Rattle.session_view.proofs.parts.part_in.Goals as goal

pub returns-then-is_err : goal.returns-then-is_err
returns-then-is_err c = λ t st fit.
    let row = both_back WindowStands (window_at t c.in-Some.serial) (Some c.in-Some-get.window.now)
    c.in-Some-get.window.now (c.in-Some-get.ensures.finds t.windows st.windows) refl in
    let here = there_by_acts t c.args.user c.args.shown c.in-Some.serial row.0 c.in-Some.is row.1 fit in
    hidden t c.args.user c.args.shown c.in-Some.serial row.0 c.in-Some.is row.1
    (sym (c.may.ensures.answer t.edition t.owner t.acts st.acl here) ∙ c.if-is_err.ensures.negation)
    ∙ ap (λ (n : ℕ). view.unread n) (sym row.2.number_is)

pub returns : goal.returns
returns c = λ t st fit.
    let row = both_back WindowStands (window_at t c.in-Some.serial) (Some c.in-Some-get.window.now)
    c.in-Some-get.window.now (c.in-Some-get.ensures.finds t.windows st.windows) refl in
    let here = there_by_acts t c.args.user c.args.shown c.in-Some.serial row.0 c.in-Some.is row.1 fit in
    record {
      window = row.0;
      stands = row.2;
      lines_are = c.in_ok-lines.ensures
          ∙ ap (λ (x : Screen). moved_back c.args.shown.back x) row.2.stands.screen;
      shown = readable t c.args.user c.args.shown c.in-Some.serial row.0 c.in-Some.is row.1
          (sym (c.may.ensures.answer t.edition t.owner t.acts st.acl here) ∙ c.if-is_err.ensures.negation);
    }
