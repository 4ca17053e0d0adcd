use Rattle.trail_rights.proofs.Vocabulary.{[], subst, StandsAfter, entries_in}
use Rattle.trail_rights.proofs.Seen.{acts_are}
use Rattle.trail_rights.proofs.watch.Watch.replay.Goals as goal

pub returns : goal.returns
returns c = λ edition owner said w.
    subst (StandsAfter c.replay.result.now edition owner) (acts_are [] said)
    (c.replay.ensures edition owner (entries_in said) w.read)
