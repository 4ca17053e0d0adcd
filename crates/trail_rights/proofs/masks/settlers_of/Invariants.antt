use Rattle.trail_rights.proofs.Vocabulary.{◌≡◌, map, take, first_settler}
use Rattle.trail_rights.proofs.masks.settlers_of.Given as goal

abbrev pub invariant-loop-setting : goal.invariant-loop-setting
invariant-loop-setting l = l.settlers.items ≡ map first_settler (take l.setting-index l.settings)
