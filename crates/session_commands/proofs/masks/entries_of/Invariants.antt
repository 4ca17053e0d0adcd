use Rattle.session_commands.proofs.Vocabulary.{◌≡◌, take, StandsFor, Tables, mask_entries}
use Rattle.session_commands.proofs.masks.entries_of.Given as goal

abbrev pub invariant-loop-mask : goal.invariant-loop-mask
invariant-loop-mask l = (t : Tables) → StandsFor l.acl t.edition t.owner t.acts
    → l.entries.items ≡ mask_entries t (take l.mask-index l.masks)
