use Rattle.trail_rights.proofs.Vocabulary.{◌≡◌, drop, list_all, is_asked}
use Rattle.trail_rights.proofs.decider.are_asked.Given as goal

abbrev pub invariant-loop-decider : goal.invariant-loop-decider
invariant-loop-decider l =
    list_all (is_asked l.asked) (drop l.decider-index l.deciders) ≡ list_all (is_asked l.asked) l.deciders
