use Rattle.trail_confined.proofs.Vocabulary.{◌≡◌, take, flat_map, deciders_of_one}
use Rattle.trail_confined.proofs.failing.power_deciders.Given as goal

abbrev pub invariant-loop-user : goal.invariant-loop-user
invariant-loop-user l = l.deciders.items ≡ flat_map (deciders_of_one l.owner) (take l.user-index l.users)
