use Rattle.trail_rights.proofs.Vocabulary.{◌≡◌, ◌++◌, take, flat_map, other_text}
use Rattle.trail_rights.proofs.masks.push_others.Given as goal

abbrev pub invariant-loop-user : goal.invariant-loop-user
invariant-loop-user l =
    l.out.items ≡ l.fn.out.items ++ flat_map (other_text l.settlers l.by) (take l.user-index l.users)
