use Rattle.trail_rights.proofs.Vocabulary.{◌≡◌, ◌++◌, map, take, drop, decider_after}
use Rattle.trail_rights.proofs.sight.decide_all.Given as goal

abbrev pub invariant-loop-decider : goal.invariant-loop-decider
invariant-loop-decider l = l.decider-items ≡ map (decider_after l.mark l.act)
    (take l.decider-index l.initial.decider-items) ++ drop l.decider-index l.initial.decider-items
