use Rattle.trail_confined.proofs.Vocabulary.{take_more, commands_text}
use Rattle.trail_confined.proofs.Texts.{all_told, one_more}
use Rattle.trail_confined.proofs.who.push_all_commands.Goals as goal

pub loop-user-preserved : goal.loop-user-preserved
loop-user-preserved c = λ edition owner h stands.
    one_more (commands_text edition owner h) c.args.users.now c.loop-user.user-index _ _ _ _
    (take_more c.args.users.now c.loop-user.user-index _ c.loop-user-test.true)
    (c.loop-user.invariant edition owner h stands) (c.in_ok-push_commands.ensures edition owner h stands)

pub returns : goal.returns
returns c = λ edition owner h stands.
    all_told (commands_text edition owner h) c.args.users.now c.loop-user.user-index _ _ c.loop-user-test.false
    (c.loop-user.invariant edition owner h stands)
