use Rattle.trail_confined.proofs.Vocabulary.{◌≡◌, ◌++◌, take, flat_map, powers_of}
use Rattle.trail_confined.proofs.premises.push_all_powers.Given as goal

abbrev pub invariant-loop-user : goal.invariant-loop-user
invariant-loop-user l = l.out.items ≡ l.fn.out.items ++ flat_map powers_of (take l.user-index l.users)
