use Rattle.trail_confined.proofs.Vocabulary.{◌≡◌, ◌++◌, take, flat_map, masks_of}
use Rattle.trail_confined.proofs.premises.push_all_masks.Given as goal

abbrev pub invariant-loop-user : goal.invariant-loop-user
invariant-loop-user l = l.out.items ≡ l.fn.out.items ++ flat_map (masks_of l.openers) (take l.user-index l.users)
