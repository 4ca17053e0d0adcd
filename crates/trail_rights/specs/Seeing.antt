-- What is seen of acts.
use Rattle.std.specs.Prelude.{◌≡◌, List, map}
use Rattle.std.specs.List.{AllByRecursion}
use Rattle.acl.specs.declared.act.Object.{Object}
use Rattle.acl.specs.declared.bits.Bit.{Bit}
use Rattle.acl.specs.declared.user_id.UserId.{UserId}
use Rattle.trail_rights.specs.declared.settler.RightsSetting.{RightsSetting}
use Rattle.trail_rights.specs.declared.sight.Sight.{Sight}
use Rattle.trail_rights.specs.Marks.{Marked, acts_in}
use Rattle.trail_rights.specs.Deciding.{HasDecided, sought_by}
use Rattle.trail_rights.specs.Settling.{HasSettled, setting_by}
use Rattle.trail_rights.specs.Windows.{windows_of}

-- windows, what decides and what is set, after these acts
pub record HasSeen (s : Sight) (owner : UserId) (marked : Marked) : Type 0 where
  pub windows : s.windows.items ≡ windows_of (acts_in marked)
  pub deciders : AllByRecursion (HasDecided owner marked) s.deciders.items
  pub settlers : AllByRecursion (HasSettled marked) s.settlers.items

-- if these acts were seen before, more acts are seen now
abbrev pub Sees : Sight → Sight → (Marked → Marked) → Type 0
Sees old new more =
    (owner : UserId) (marked : Marked) → HasSeen old owner marked → HasSeen new owner (more marked)

-- what a sight looks for: each user's bit on an object, and each setting, in the order in which they were given
abbrev pub sought : Sight → List (UserId × Bit × Object) × List RightsSetting
sought s = (map sought_by s.deciders.items, map setting_by s.settlers.items)
