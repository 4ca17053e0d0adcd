use Rattle.std.proofs.Common.{◌+◌, arith, ap, sym, ◌∙◌, refl, subst, drop}
use Rattle.attach_proto.specs.declared.message.Message.{Message}
use Rattle.terminal_model.specs.Reading.{Terminal}
use Rattle.emulator.specs.Standing.{StandsFor}
use Rattle.attach_proto.specs.declared.why.Told.{Told}
use Rattle.attach_proto.specs.Table.{noted}
use Rattle.web_page.specs.Hearing.{WebDisplay, drawn, all_drawn, all_noted}
use Rattle.web_page.proofs.Hearing.{one_more, none_more, one_told, none_told, kept_on}
use Rattle.web_page.proofs.display.WebDisplay.hear_each.Goals as goal

pub loop-message-preserved : goal.loop-message-preserved
loop-message-preserved c = record {
  sheet = λ t s w e.
      let k = c.loop-message.invariant.sheet t s w e in (
        drawn k.0 c.message-item.result,
        c.in_ok-hear.ensures.sheet k.0 k.1,
        k.2 ∙ (one_more c.args.messages.now c.loop-message.message-index c.message-item.result k.0 (omega arith)
            ∙ ap (λ (m : Message). all_drawn (drawn k.0 m)
            (drop (c.loop-message.message-index + 1) c.args.messages.now))
            (sym c.message-item.is)),
      );
  sent = kept_on c.args.self.now.sheet c.loop-message.self.sheet c.hear.new.self.sheet c.loop-message.invariant.sent
      c.hear.ensures.sent;
  same =
      c.hear.ensures.same
      ∙ ap (λ (d : WebDisplay). record d { sheet = c.hear.new.self.sheet; told = c.hear.new.self.told })
      c.loop-message.invariant.same;
  told =
      c.loop-message.invariant.told
      ∙ one_told c.args.messages.now c.loop-message.message-index c.message-item.result c.loop-message.self.told
      (omega arith)
      ∙ ap (λ (m : Message). all_noted (noted c.loop-message.self.told m)
      (drop (c.loop-message.message-index + 1) c.args.messages.now)) (sym c.message-item.is)
      ∙ ap (λ (t : Told). all_noted t (drop (c.loop-message.message-index + 1) c.args.messages.now))
      (sym c.in_ok-hear.ensures.told);
}

pub returns-clause-sheet : goal.returns-clause-sheet
returns-clause-sheet c = λ t w.
    let k = c.loop-message.invariant.sheet t (all_drawn t c.args.messages.now) w refl in
    subst (λ (u : Terminal). StandsFor c.loop-message.self.sheet.terminal u)
    (sym (k.2 ∙ none_more c.args.messages.now c.loop-message.message-index k.0 (omega arith))) k.1

pub returns-clause-told : goal.returns-clause-told
returns-clause-told c =
    sym (c.loop-message.invariant.told
    ∙ none_told c.args.messages.now c.loop-message.message-index c.loop-message.self.told (omega arith))

pub returns-in_err-hear-clause-sent : goal.returns-in_err-hear-clause-sent
returns-in_err-hear-clause-sent c =
    kept_on c.args.self.now.sheet c.loop-message.self.sheet c.hear.new.self.sheet c.loop-message.invariant.sent
    c.hear.ensures.sent
