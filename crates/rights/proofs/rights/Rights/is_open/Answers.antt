use Rattle.rights.proofs.Vocabulary.{◌∙◌, ap, is_some, is_open, mode_of}
use Rattle.rights.proofs.Standing.{some_if}
use Rattle.rights.proofs.rights.Rights.is_open.Goals as goal

pub returns : goal.returns
returns c = λ edition owner h s.
    c.is_some.ensures
    ∙
    (ap is_some (c.mode.ensures edition owner h s.locks)
    ∙ some_if (is_open h c.args.window) (mode_of h c.args.window))
