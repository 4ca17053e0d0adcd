use Rattle.trail_rights.proofs.Vocabulary.{◌≡◌, ◌++◌, take, flat_map, masks_text}
use Rattle.trail_rights.proofs.masks.push_mask_lines.Given as goal

abbrev pub invariant-loop-user : goal.invariant-loop-user
invariant-loop-user l =
    l.out.items ≡ l.fn.out.items ++ flat_map (masks_text l.settlers l.users) (take l.user-index l.users)
