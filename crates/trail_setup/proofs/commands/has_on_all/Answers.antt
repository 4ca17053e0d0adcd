use Rattle.trail_setup.proofs.Vocabulary.{◌∙◌, sym, ALL, passes, stops, has_just}
use Rattle.trail_setup.proofs.Putting.{all_past}
use Rattle.trail_setup.proofs.commands.has_on_all.Goals as goal

pub returns-then-not-has_just : goal.returns-then-not-has_just
returns-then-not-has_just c = λ edition owner h s.
    stops (has_just owner h c.args.user c.args.given) ALL c.loop-command.command-index _ _ c.loop-command-test.true
    (sym (c.has_just.ensures edition owner h s) ∙ c.if-not-has_just.true) (c.loop-command.invariant edition owner h s)

pub loop-command-preserved : goal.loop-command-preserved
loop-command-preserved c = λ edition owner h s.
    passes (has_just owner h c.args.user c.args.given) ALL c.loop-command.command-index _ _ c.loop-command-test.true
    (sym (c.has_just.ensures edition owner h s) ∙ c.if-not-has_just.false) (c.loop-command.invariant edition owner h s)

pub returns : goal.returns
returns c = λ edition owner h s.
    all_past (has_just owner h c.args.user c.args.given) ALL c.loop-command.command-index _ c.loop-command-test.false
    (c.loop-command.invariant edition owner h s)
