use Rattle.session_core.proofs.Vocabulary.{[], Ok, refl, ap, sym, append-nil, option_copied, Window, window_at, done}
use Rattle.session_core.proofs.Vocabulary.{finished, outputs, both_back, WindowStands, Step, none_left, was_done}
use Rattle.session_core.proofs.Vocabulary.{for_there}
use Rattle.windows.specs.Standing.{at_serial}
use Rattle.session_input.proofs.Outcomes.{nobody_leaves}
use Rattle.session_core.proofs.coming.write.Goals as goal

pub returns-clause-step : goal.returns-clause-step
returns-clause-step c = λ t st fit.
    let window = c.args.window in
    let bytes = c.args.bytes.now in
    let before = c.args.step.now in
    let after : Step = record before { made = c.output.new.made } in
    let row = both_back WindowStands (at_serial window t.windows) (option_copied c.get.result)
    c.in-Some._window.now (c.get.ensures.finds t.windows st.windows) (ap option_copied c.in-Some.is) in
    let did = c.in_ok-output.ensures.answer t row.0 st fit row.1 in
    was_done t [] (outputs t row.0 bytes) _ done (Ok c.made_so.result)
    c.output.new.state c.output.new.state before after before.made c.output.new.made
    (for_there t (λ (w : Window). finished t [] done (outputs t w bytes)) (window_at t window) row.0
    row.1)
    (sym c.made_so.ensures) refl refl did.1
    (nobody_leaves t (outputs t row.0 bytes) c.output.new.state c.output.new.made (none_left t.clients) did.1.stands)
    (sym (append-nil before.verdicts.items))
