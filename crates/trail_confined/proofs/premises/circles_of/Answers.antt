use Rattle.trail_confined.proofs.Vocabulary.{◌∙◌, ◌++◌, [], ap, slice_index_or, take_more, circle, circles_of}
use Rattle.trail_confined.proofs.Vocabulary.{joins_next, take_past}
use Rattle.trail_confined.proofs.premises.circles_of.Goals as goal

pub loop-user-init : goal.loop-user-init
loop-user-init c = λ edition owner h stands. c.new-circles.ensures.items

pub loop-user-preserved : goal.loop-user-preserved
loop-user-preserved c = λ edition owner h stands.
    let u = slice_index_or c.args.users.now c.loop-user.user-index (record { name = [] }) in
    c.in_ok-push_circle.ensures edition owner h stands
    ∙ (ap (λ l. l ++ circle edition h u) (c.loop-user.invariant edition owner h stands)
    ∙ joins_next (circle edition h) c.args.users.now c.loop-user.user-index u
    (take_more c.args.users.now c.loop-user.user-index _ c.loop-user-test.true))

pub returns : goal.returns
returns c = λ edition owner h stands.
    c.loop-user.invariant edition owner h stands
    ∙ ap (circles_of edition h) (take_past c.loop-user.user-index c.args.users.now c.loop-user-test.false)
