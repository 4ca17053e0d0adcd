use Rattle.trail_confined.proofs.Vocabulary.{◌≡◌, ◌++◌, take, flat_map, standing_of}
use Rattle.trail_confined.proofs.premises.push_standings.Given as goal

abbrev pub invariant-loop-user : goal.invariant-loop-user
invariant-loop-user l = l.out.items ≡ l.fn.out.items ++ flat_map standing_of (take l.user-index l.users)
