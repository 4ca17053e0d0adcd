use Rattle.trail_confined.proofs.Vocabulary.{◌≡◌, ◌++◌, take, flat_map, Edition, History, StandsAfter, failing_text}
use Rattle.trail_confined.proofs.failing.push_each_failing.Given as goal

abbrev pub invariant-loop-premise : goal.invariant-loop-premise
invariant-loop-premise l =
    (edition : Edition) (h : History) → StandsAfter l.replay edition l.owner h
    → l.out.items
    ≡ l.fn.out.items ++ flat_map (failing_text edition l.owner h l.sight) (take l.premise-index l.failing)
