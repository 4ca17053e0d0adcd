use Rattle.trail_confined.proofs.Vocabulary.{take_more, user_text}
use Rattle.trail_confined.proofs.Texts.{all_told, one_more}
use Rattle.trail_confined.proofs.who.push_users.Goals as goal

pub loop-user-preserved : goal.loop-user-preserved
loop-user-preserved c = λ edition owner h stands.
    one_more (user_text edition h) c.args.users.now c.loop-user.user-index _ _ _ _
    (take_more c.args.users.now c.loop-user.user-index _ c.loop-user-test.true)
    (c.loop-user.invariant edition owner h stands) (c.in_ok-push_user.ensures edition owner h stands)

pub returns : goal.returns
returns c = λ edition owner h stands.
    all_told (user_text edition h) c.args.users.now c.loop-user.user-index _ _ c.loop-user-test.false
    (c.loop-user.invariant edition owner h stands)
