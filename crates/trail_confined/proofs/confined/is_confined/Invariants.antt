use Rattle.trail_confined.proofs.Vocabulary.{◌≡◌, drop, list_any, concerns}
use Rattle.trail_confined.proofs.confined.is_confined.Given as goal

abbrev pub invariant-loop-premise : goal.invariant-loop-premise
invariant-loop-premise l = list_any (concerns l.bit) (drop l.premise-index l.failing) ≡ list_any (concerns l.bit)
    l.failing
