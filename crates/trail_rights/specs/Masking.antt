-- What is printed of masks, and of what a user gets who becomes known; and what is looked for to print it.
use Rattle.std.specs.Prelude.{ℕ, if◌then◌else◌, List, [], ◌∷◌, ◌++◌, Option, Some, None, codes, map}
use Rattle.std.specs.List.{flat_map}
use Rattle.acl.specs.Names.{name_of}
use Rattle.acl.specs.Same.{same_user}
use Rattle.acl.specs.declared.act.PresetKind.{PresetKind}
use Rattle.acl.specs.declared.act.PresetKind.TheVariants as kind
use Rattle.acl.specs.declared.bits.Bit.{Bit}
use Rattle.acl.specs.declared.bits.Bit.TheVariants.{Read, Write, Execute}
use Rattle.acl.specs.declared.user_id.UserId.{UserId}
use Rattle.session.specs.Texts.{letter}
use Rattle.trail_rights.specs.declared.settler.RightsSetting.{RightsSetting}
use Rattle.trail_rights.specs.declared.settler.RightsSetting.TheVariants as setting
use Rattle.trail_rights.specs.declared.settler.Settler.{Settler}
use Rattle.trail_rights.specs.Settling.{settler_in}

-- the letter of a bit if the setting gives it, else a hyphen; a question mark if it wasn't looked for
abbrev pub given_text : Option Settler → Bit → List ℕ
given_text None bit = codes "?"
given_text (Some s) bit = if s.value then letter bit else codes "-"

abbrev pub setting_text : List Settler → RightsSetting → Bit → List ℕ
setting_text settlers s bit = given_text (settler_in settlers s) bit

abbrev pub mask_letter : List Settler → UserId → UserId → Bit → List ℕ
mask_letter settlers by user bit = setting_text settlers (setting.Mask by user bit) bit

-- ` ann:r--`: which bits a user gets on windows that an opener opens later
abbrev pub mask_text : List Settler → UserId → UserId → List ℕ
mask_text settlers by user =
    codes " " ++ (name_of user ++ (codes ":" ++ (mask_letter settlers by user Read
    ++ (mask_letter settlers by user Write ++ mask_letter settlers by user Execute))))

abbrev pub other_text : List Settler → UserId → UserId → List ℕ
other_text settlers by user =
    if same_user user by then [] else mask_text settlers by user

-- which bits the other users get: `masks own ann:r-- bob:---`
abbrev pub masks_text : List Settler → List UserId → UserId → List ℕ
masks_text settlers users by =
    codes "masks " ++ (name_of by ++ (flat_map (other_text settlers by) users ++ 0x0A ∷ []))

abbrev pub preset_letter : List Settler → PresetKind → Bit → List ℕ
preset_letter settlers k bit = setting_text settlers (setting.Preset k bit) bit

abbrev pub preset_text : List Settler → PresetKind → List ℕ
preset_text settlers k =
    preset_letter settlers k Read
    ++ (preset_letter settlers k Write ++ preset_letter settlers k Execute)

abbrev pub newcomer_text : List Settler → List ℕ
newcomer_text settlers =
    codes "newcomer windows:" ++ (preset_text settlers kind.Windows
    ++ (codes " commands:" ++ (preset_text settlers kind.Commands ++ codes " later:rwx\n")))

-- ---- what is looked for: who is known, what each user masks for each, and the presets

abbrev pub masks_for : UserId → UserId → List RightsSetting
masks_for by user = setting.Mask by user Read ∷ setting.Mask by user Write ∷ setting.Mask by user Execute ∷ []

abbrev pub masks_of : List UserId → UserId → List RightsSetting
masks_of users by = flat_map (masks_for by) users

abbrev pub presets_of : PresetKind → List RightsSetting
presets_of k = setting.Preset k Read ∷ setting.Preset k Write ∷ setting.Preset k Execute ∷ []

abbrev pub settings_of : List UserId → List RightsSetting
settings_of users =
    map setting.Listed users
    ++ (flat_map (masks_of users) users ++ (presets_of kind.Windows ++ presets_of kind.Commands))
