use Rattle.rights.proofs.Vocabulary.{◌≡◌, take, sets_on}
use Rattle.rights.proofs.runs.are_sets.Given as goal

abbrev pub invariant-places : goal.invariant-places
invariant-places l = take l.i l.fn.acts ≡ sets_on l.fn.user (take l.i l.fn.changes) l.fn.object
