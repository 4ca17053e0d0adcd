use Rattle.session.proofs.Vocabulary.{◌∷◌, [], happening, untaken_events}
use Rattle.session.proofs.Parts.{event_ran, left_none}
use Rattle.session.proofs.player.submit.Goals as goal

pub returns-clause-ran : goal.returns-clause-ran
returns-clause-ran g c = λ h st.
    event_ran h c.args.session.now c.run-ran.new.self (happening c.args.event) c.new-effects.result.items
    c.run-ran.new.effects.items c.new-replies.result.items c.run-ran.new.replies.items
    (untaken_events c.run-ran.result (happening c.args.event ∷ [])) (g.W.Write.contents c.args.writer.now)
    (g.W.Write.contents c.put.new.writer) c.deref-3.result.now
    c.new-effects.ensures.items c.new-replies.ensures.items c.run-ran.ensures.promise
    (left_none c.run-ran.result (happening c.args.event) (c.run-ran.ensures.whole c.if-ran.false))
    (rw (c.deref-3.ensures, c.in_ok-text.ensures, c.deref.ensures.value, c.deref-2.ensures.value)) c.in_ok-put.ensures
    st
