use Rattle.trail_setup.proofs.Vocabulary.{◌≡◌, drop, mask_in}
use Rattle.trail_setup.proofs.state.SetupState.mask_of.Given as goal

abbrev pub invariant-loop-mask : goal.invariant-loop-mask
invariant-loop-mask l =
    mask_in (drop l.mask-index l.self.masks.items) l.by l.user ≡ mask_in l.self.masks.items l.by l.user
