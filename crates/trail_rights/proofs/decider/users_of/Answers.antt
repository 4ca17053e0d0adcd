use Rattle.trail_rights.proofs.Vocabulary.{◌∙◌, ◌++◌, ap, take, arith, option_to_list, users_of}
use Rattle.trail_rights.proofs.Stepping.{take_next, take_past}
use Rattle.trail_rights.proofs.decider.users_of.Goals as goal

pub loop-place-preserved : goal.loop-place-preserved
loop-place-preserved c = λ edition owner h stands.
    c.in_ok-push_user.ensures
    ∙ ap (λ l. l ++ option_to_list c.user_at.result) (c.loop-place.invariant edition owner h stands)
    ∙ ap (λ o. take c.loop-place.place (users_of owner h) ++ option_to_list o)
    (c.user_at.ensures edition owner h stands) ∙ take_next (users_of owner h) c.loop-place.place

pub returns : goal.returns
returns c = λ edition owner h stands.
    c.loop-place.invariant edition owner h stands
    ∙ take_past c.loop-place.place (users_of owner h)
    (omega (arith, c.loop-place-test.false, c.user_count-place-end.ensures edition owner h stands))
