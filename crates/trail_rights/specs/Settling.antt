-- What acts set besides rights: who is known, masks and presets; and which act set it last.
use Rattle.std.specs.Prelude.{◌≡◌, Bool, true, false, ◌&&◌, if◌then◌else◌, List, [], ◌∷◌, ◌++◌}
use Rattle.std.specs.Prelude.{Option, Some, None, is_some, unwrap_or}
use Rattle.std.specs.List.{AllByRecursion}
use Rattle.acl.specs.declared.act.Act.{Act}
use Rattle.acl.specs.History.{History, latest, decides_known, decides_mask, decides_preset}
use Rattle.acl.specs.Same.{same_user, same_bit, same_preset}
use Rattle.trail_rights.specs.declared.acts.Mark.{Mark}
use Rattle.trail_rights.specs.declared.settler.RightsSetting.{RightsSetting}
use Rattle.trail_rights.specs.declared.settler.RightsSetting.TheVariants as setting
use Rattle.trail_rights.specs.declared.settler.Settler.{Settler}
use Rattle.trail_rights.specs.Marks.{Marked, acts_in}

-- the value that an act gives, if it does
abbrev pub settles : RightsSetting → Act → Option Bool
settles (setting.Listed user) a = decides_known user a
settles (setting.Mask by user bit) a = decides_mask by user bit a
settles (setting.Preset kind bit) a = decides_preset kind bit a

-- the value before the first act that gives one
abbrev pub first_value : RightsSetting → Bool
first_value (setting.Listed user) = false
first_value (setting.Mask by user bit) = true
first_value (setting.Preset kind bit) = true

abbrev pub value_of : RightsSetting → History → Bool
value_of s h = latest (settles s) (first_value s) h

-- the latest act that gives a value, with its mark
abbrev pub settling : Marked → RightsSetting → Option (Mark × Act)
settling [] s = None
settling (p ∷ marked) s = if is_some (settles s p.1) then Some p else settling marked s

-- ---- laws

abbrev pub NoneSettles : RightsSetting → Marked → Type 0
NoneSettles s marked = AllByRecursion (λ (p : Mark × Act). settles s p.1 ≡ None) marked

-- an act gives the setting its value, and no later act does
pub record SetsLast (marked : Marked) (s : RightsSetting) (p : Mark × Act) : Type 0 where
  pub later : Marked
  pub before : Marked
  pub all : marked ≡ later ++ p ∷ before
  pub value : settles s p.1 ≡ Some (value_of s (acts_in marked))
  pub last : NoneSettles s later

-- if no act gives it a value, it has its first one
pub record IsUnset (marked : Marked) (s : RightsSetting) : Type 0 where
  pub none : NoneSettles s marked
  pub value : value_of s (acts_in marked) ≡ first_value s

abbrev pub IsSet : Marked → RightsSetting → Option (Mark × Act) → Type 0
IsSet marked s None = IsUnset marked s
IsSet marked s (Some p) = SetsLast marked s p

abbrev pub SettlingIsLatest : Type 0
SettlingIsLatest = (marked : Marked) (s : RightsSetting) → IsSet marked s (settling marked s)

-- ---- as the code has it

abbrev pub same_setting : RightsSetting → RightsSetting → Bool
same_setting (setting.Listed u) (setting.Listed v) = same_user u v
same_setting (setting.Mask by u bit) (setting.Mask other v c) =
    same_user by other && same_user u v && same_bit bit c
same_setting (setting.Preset kind bit) (setting.Preset other c) =
    same_preset kind other && same_bit bit c
same_setting _ _ = false

abbrev pub settler_after : Mark → Act → Settler → Settler
settler_after m a s = record s {
  value = unwrap_or (settles s.setting a) s.value;
  found = if is_some (settles s.setting a) then Some (m, a) else s.found;
}

-- the setting's value after these acts, and the act that gave it
pub record HasSettled (marked : Marked) (s : Settler) : Type 0 where
  pub value : s.value ≡ value_of s.setting (acts_in marked)
  pub found : s.found ≡ settling marked s.setting

-- the setting that a settler looks for
abbrev pub setting_by : Settler → RightsSetting
setting_by s = s.setting

-- a settler before the first act
abbrev pub first_settler : RightsSetting → Settler
first_settler s = record { setting = s; value = first_value s; found = None }

-- the first settler that looks for a setting
abbrev pub settler_in : List Settler → RightsSetting → Option Settler
settler_in [] s = None
settler_in (t ∷ settlers) s = if same_setting t.setting s then Some t else settler_in settlers s
