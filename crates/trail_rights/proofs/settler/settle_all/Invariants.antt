use Rattle.trail_rights.proofs.Vocabulary.{◌≡◌, ◌++◌, map, take, drop, settler_after}
use Rattle.trail_rights.proofs.settler.settle_all.Given as goal

abbrev pub invariant-loop-settler : goal.invariant-loop-settler
invariant-loop-settler l = l.settler-items ≡ map (settler_after l.mark l.act)
    (take l.settler-index l.initial.settler-items) ++ drop l.settler-index l.initial.settler-items
