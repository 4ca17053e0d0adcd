use Rattle.session_core.proofs.Vocabulary.{ℕ, List, None, Ok, refl, ap, sym, ◌∙◌, Check, Deed, reply_of, Step}
use Rattle.session_core.proofs.Vocabulary.{StepOutput, was_passed}
use Rattle.session_model.specs.Comings.{attach_checks, attaches, new_client}
use Rattle.session_core.proofs.coming.attach_client.Goals as goal

pub returns-clause-step : goal.returns-clause-step
returns-clause-step c = λ t st fit.
    let user = c.args.user in
    let rows = c.args.rows in
    let columns = c.args.columns in
    let before = c.args.step.now in
    let after : Step = record { made = c.leave.new.made; verdicts = c.check_attach.new.verdicts } in
    let first : StepOutput = record before.made { acts = c.reserve.new.self } in
    let cs : List Check = attach_checks t user rows columns in
    let d : Deed = attaches t (new_client t user rows columns) in
    let passed = c.in_ok-check_attach.ensures t st in
    let done = c.in_ok-client.ensures.answer t st fit passed.none in
    was_passed t cs d _ (reply_of 0 t.next_client 0 None)
    (Ok c.made_so.result) c.attach.new.state c.leave.new.state before after first c.attach.new.made refl passed.none
    (ap (λ (n : ℕ). reply_of 0 n 0 None) (sym done.0) ∙ sym c.made_so.ensures)
    c.in_ok-reserve.ensures.items refl done.1
    (c.leave.ensures t d (c.of-focuses.ensures t st fit.sound) done.1.stands) passed.noted
