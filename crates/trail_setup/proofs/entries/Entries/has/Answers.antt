use Rattle.std.proofs.Common.{◌∙◌}
use Rattle.trail_setup.proofs.Alike.{may_alone, there_same}
use Rattle.trail_setup.proofs.entries.Entries.has.Goals as goal

pub returns : goal.returns
returns c = λ edition owner h s here.
    c.may.ensures edition owner _ s (there_same h c.args.object ∙ here)
    ∙ may_alone edition owner h c.args.user c.args.bit c.args.object
