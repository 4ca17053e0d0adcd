use Rattle.trail_confined.proofs.Vocabulary.{◌≡◌, ◌++◌, take, flat_map, masks_by}
use Rattle.trail_confined.proofs.premises.push_masks.Given as goal

abbrev pub invariant-loop-opener : goal.invariant-loop-opener
invariant-loop-opener l = l.out.items ≡ l.fn.out.items ++ flat_map (masks_by l.user) (take l.opener-index l.openers)
