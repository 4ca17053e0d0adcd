use Rattle.trail_confined.proofs.Vocabulary.{◌≡◌, drop, is_listed}
use Rattle.trail_confined.proofs.why.is_listed.Given as goal

abbrev pub invariant-loop-other : goal.invariant-loop-other
invariant-loop-other l =
    is_listed (drop l.other-index l.windows) l.window ≡ is_listed l.windows l.window
