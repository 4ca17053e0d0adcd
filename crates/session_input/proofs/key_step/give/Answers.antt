use Rattle.session_input.proofs.Vocabulary.{Some, ap, refl, ◌∙◌, Step, StepOutput}
use Rattle.session_input.proofs.KeyStepping.{keys_given}
use Rattle.session_input.proofs.key_step.give.Goals as goal

pub returns-in-Ok-clause-ok : goal.returns-in-Ok-clause-ok
returns-in-Ok-clause-ok c = λ t row keys st fit at same read.
    let before : Step = c.args.step.now in
    let middle : Step = c.type_bytes.new.step in
    let later : Step = c.obey_read.new.step in
    let made : StepOutput = record later.made { effects = c.drop_said.new.effects } in
    keys_given t c.args.given.now.by.client row keys c.args.typed c.in_ok-message.message
    c.len-start.result c.len-end.result (Some c.args.given.now.order) c.obey_read.new.state before middle
    later made at read.typed_is read.order_is
    (c.in_ok-message.ensures.ok t row st fit at same)
    (ap (λ acts. acts.items) c.in_ok-message.ensures.acts)
    (c.in-Ok.ensures.ok t row keys st fit at same read.reads)
    refl (c.len-start.ensures ∙ before.made.effects.ok.0) (c.len-end.ensures ∙ middle.made.effects.ok.0)
    c.drop_said.ensures
