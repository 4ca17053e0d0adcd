use Rattle.session_core.proofs.Vocabulary.{ℕ, List, None, Ok, refl, ap, sym, ◌∙◌, Check, Window, Deed, reply_of, Step}
use Rattle.session_core.proofs.Vocabulary.{StepOutput, was_passed}
use Rattle.session_model.specs.Comings.{open_checks, opens, new_window}
use Rattle.session_core.proofs.coming.open_window.Goals as goal

pub returns-clause-step : goal.returns-clause-step
returns-clause-step c = λ t st fit.
    let user = c.args.user in
    let rows = c.args.size.rows in
    let columns = c.args.size.columns in
    let keep = c.args.size.keep in
    let title = c.args.title.now in
    let before = c.args.step.now in
    let after : Step = record { made = c.leave.new.made; verdicts = c.check_open.new.verdicts } in
    let first : StepOutput = record before.made { acts = c.reserve.new.self } in
    let cs : List Check = open_checks t user rows columns keep title in
    let w : Window = new_window t rows columns keep title in
    let d : Deed = opens t user w in
    let passed = c.in_ok-check_open.ensures t st in
    let done = c.in_ok-window.ensures.answer t st fit passed.none in
    was_passed t cs d _ (reply_of 0 w.serial w.number None)
    (Ok c.made_so.result) c.open.new.state c.leave.new.state before after first c.open.new.made refl passed.none
    (ap (λ (p : ℕ × ℕ). reply_of 0 p.0 p.1 None) (sym done.0) ∙ sym c.made_so.ensures)
    c.in_ok-reserve.ensures.items refl done.1
    (c.leave.ensures t d (c.of-focuses.ensures t st fit.sound) done.1.stands) passed.noted
