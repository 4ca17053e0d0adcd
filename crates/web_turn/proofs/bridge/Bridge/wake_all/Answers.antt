use Rattle.std.proofs.Common.{◌≡◌, ◌∙◌, List, [], ◌∷◌, ap, sym}
use Rattle.std.specs.Slice.Iter.{iter_rest}
use Rattle.mio.specs.declared.event.event.Event.{Event}
use Rattle.mio.specs.declared.token.Token.{Token}
use Rattle.web_streams.specs.Tokens.{woken}
use Rattle.web_streams.specs.declared.connections.Woken.{Woken}
use Rattle.web_turn.specs.Waking.{wakes, wakes_all}
use Rattle.web_turn.proofs.Waking.{no_more}
use Rattle.web_turn.proofs.bridge.Bridge.wake_all.Goals as goal

pub loop-event-init : goal.loop-event-init
loop-event-init g c =
    ap (λ (es : List Event). wakes_all es c.args.self.now) c.into_iter-event-iterator.ensures.into_iter_gives.0

pub loop-event-preserved : goal.loop-event-preserved
loop-event-preserved g c =
    let old = c.loop-event.self in
    let rest : List Event = iter_rest c.next.new.self in
    let steps : iter_rest c.loop-event.event-iterator ≡ c.in-Some.event.now ∷ rest = c.in-Some.ensures.steps in
    ap (wakes_all rest)
    (c.wake.ensures
    ∙ ap (λ (w : Woken). wakes w old) (c.woken_by.ensures ∙ ap (λ (t : Token). woken t.0) c.token.ensures))
    ∙ sym (ap (λ (es : List Event). wakes_all es old) steps) ∙ c.loop-event.invariant

pub returns : goal.returns
returns g c =
    let done : iter_rest c.loop-event.event-iterator ≡ [] =
    no_more (iter_rest c.loop-event.event-iterator) c.in-None.ensures.steps.0 in
    sym (ap (λ (es : List Event). wakes_all es c.loop-event.self) done) ∙ c.loop-event.invariant
