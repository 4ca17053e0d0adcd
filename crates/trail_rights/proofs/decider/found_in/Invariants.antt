use Rattle.trail_rights.proofs.Vocabulary.{◌≡◌, drop, found_in}
use Rattle.trail_rights.proofs.decider.found_in.Given as goal

abbrev pub invariant-loop-decider : goal.invariant-loop-decider
invariant-loop-decider l = found_in (drop l.decider-index l.deciders) l.user l.bit l.object ≡ found_in l.deciders l.user
    l.bit l.object
