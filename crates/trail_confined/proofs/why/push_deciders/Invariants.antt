use Rattle.trail_confined.proofs.Vocabulary.{◌≡◌, ◌++◌, take, flat_map, decider_text}
use Rattle.trail_confined.proofs.why.push_deciders.Given as goal

abbrev pub invariant-loop-decider : goal.invariant-loop-decider
invariant-loop-decider l =
    l.out.items ≡ l.fn.out.items ++ flat_map decider_text (take l.decider-index l.deciders)
