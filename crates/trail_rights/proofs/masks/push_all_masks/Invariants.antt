use Rattle.trail_rights.proofs.Vocabulary.{◌≡◌, ◌++◌, take, masks_of}
use Rattle.trail_rights.proofs.masks.push_all_masks.Given as goal

abbrev pub invariant-loop-user : goal.invariant-loop-user
invariant-loop-user l = l.settings.items ≡ l.fn.settings.items ++ masks_of (take l.user-index l.users) l.by
