use Rattle.trail_rights.proofs.Vocabulary.{◌≡◌, ◌++◌, take, flat_map, masks_of}
use Rattle.trail_rights.proofs.masks.push_each_masks.Given as goal

abbrev pub invariant-loop-by : goal.invariant-loop-by
invariant-loop-by l =
    l.settings.items ≡ l.fn.settings.items ++ flat_map (masks_of l.users) (take l.by-index l.users)
