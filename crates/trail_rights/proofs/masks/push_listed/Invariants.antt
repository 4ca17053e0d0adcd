use Rattle.trail_rights.proofs.Vocabulary.{◌≡◌, ◌++◌, map, take}
use Rattle.trail_rights.specs.declared.settler.RightsSetting.TheVariants.{Listed}
use Rattle.trail_rights.proofs.masks.push_listed.Given as goal

abbrev pub invariant-loop-user : goal.invariant-loop-user
invariant-loop-user l = l.settings.items ≡ l.fn.settings.items ++ map Listed (take l.user-index l.users)
