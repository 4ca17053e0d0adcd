use Rattle.session_core.proofs.Vocabulary.{refl, sym, ap, ◌∙◌, arith, ◌∷◌, [], ◌++◌, length, append-nil, is_ok, map}
use Rattle.session_core.proofs.Vocabulary.{happening, if_true}
use Rattle.std.proofs.lemmas.List.{length-map}
use Rattle.session_model.specs.declared.event.Event.TheVariants.{Attach}
use Rattle.session_core.proofs.Runs.{promised, then_steps, at_end, without_none, stops_in, came_to, rest_at}
use Rattle.session_core.proofs.session.Session.run.Goals as goal

pub loop-taken-preserved : goal.loop-taken-preserved
loop-taken-preserved c =
    let here = rest_at c.args.events.now c.loop-taken.taken (Attach (record { name = [] }) 0 0) c.loop-taken-test.true
    in
    then_steps _ _ _ _ _ [] _ _ _ _ _ _ _ _ (c.in-Whole.reply ∷ []) _ here refl
    (c.push.ensures.items ∙ if_true (is_ok c.push.result) _ _ (ap (λ r. is_ok r) c.unwrap.ensures)
    ∙ ap (λ rs. rs ++ c.in-Whole.reply ∷ []) c.reserve.ensures.items) c.loop-taken.invariant
    c.in-Whole.ensures.steps

pub returns-then-is_err-clause-promise : goal.returns-then-is_err-clause-promise
returns-then-is_err-clause-promise c = promised
    (rw (c.stopped_at.ensures, c.reserve.ensures.items, without_none) c.loop-taken.invariant)

pub returns-in-Part-clause-promise : goal.returns-in-Part-clause-promise
returns-in-Part-clause-promise c =
    let here = rest_at c.args.events.now c.loop-taken.taken (Attach (record { name = [] }) 0 0) c.loop-taken-test.true
    in
    promised
    (rw c.stopped_at-in-Part.ensures
    (then_steps _ _ _ _ _ _ _ _ _ _ _ _ _ _ [] _ here (stops_in c.in-Part.part _ _ _ here)
    (c.reserve.ensures.items ∙ sym (append-nil _)) c.loop-taken.invariant c.in-Part.ensures.steps))

pub returns-in-Part-clause-came : goal.returns-in-Part-clause-came
returns-in-Part-clause-came c =
    let here = rest_at c.args.events.now c.loop-taken.taken (Attach (record { name = [] }) 0 0) c.loop-taken-test.true
    in
    rw c.stopped_at-in-Part.ensures
    (came_to (map happening c.args.events.now) c.loop-taken.taken c.in-Part.part _ _
    (omega (arith, length-map c.args.events.now happening, c.loop-taken-test.true)) here c.in-Part.ensures.part)

pub returns-clause-promise : goal.returns-clause-promise
returns-clause-promise c = promised
    (at_end _ _ _ _ _ _ _ c.loop-taken.taken (length c.args.events.now)
    (omega (arith, c.loop-taken-test.false, c.loop-taken.auto.taken-end)) c.loop-taken.invariant)
