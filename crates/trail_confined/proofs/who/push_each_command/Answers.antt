use Rattle.trail_confined.proofs.Vocabulary.{take_more, ALL, command_text}
use Rattle.trail_confined.proofs.Texts.{all_told, one_more}
use Rattle.trail_confined.proofs.who.push_each_command.Goals as goal

pub loop-command-preserved : goal.loop-command-preserved
loop-command-preserved c = λ edition owner h stands.
    one_more (command_text edition owner h c.args.user) ALL c.loop-command.command-index _ _ _ _
    (take_more ALL c.loop-command.command-index _ c.loop-command-test.true)
    (c.loop-command.invariant edition owner h stands) (c.in_ok-push_command.ensures edition owner h stands)

pub returns : goal.returns
returns c = λ edition owner h stands.
    all_told (command_text edition owner h c.args.user) ALL c.loop-command.command-index _ _ c.loop-command-test.false
    (c.loop-command.invariant edition owner h stands)
