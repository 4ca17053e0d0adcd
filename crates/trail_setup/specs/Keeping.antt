-- What a setup keeps of a trail's entries, entry after entry and act after act.
use Rattle.std.specs.Prelude.{◌≡◌, ◌⊎◌, ◌&&◌, ◌==◌, ℕ, Bool, true, false, not, if◌then◌else◌, List, [], ◌∷◌, ◌++◌}
use Rattle.std.specs.Prelude.{IsOk, filter, length, slice_index_or, slice_set, unwrap_or}
use Rattle.std.specs.List.{AllByRecursion}
use Rattle.acl.specs.declared.act.Act.{Act}
use Rattle.acl.specs.declared.act.Act.TheVariants as act
use Rattle.acl.specs.declared.act.LockMode.{LockMode}
use Rattle.acl.specs.declared.act.LockMode.TheVariants.{Off}
use Rattle.acl.specs.declared.act.PresetKind.{PresetKind}
use Rattle.acl.specs.declared.act.PresetKind.TheVariants as preset
use Rattle.acl.specs.declared.bits.Bit.{Bit}
use Rattle.acl.specs.declared.bits.Bit.TheVariants.{Read, Write, Execute}
use Rattle.acl.specs.declared.command_name.CommandName.TheVariants.{Quit}
use Rattle.acl.specs.declared.user_id.UserId.{UserId}
use Rattle.acl.specs.declared.leaders.Edition.{Edition}
use Rattle.acl.specs.History.{History, followed_by, mask, preset_of}
use Rattle.acl.specs.Same.{same_preset, same_user}
use Rattle.hub.specs.Acts.{CanFollow}
use Rattle.hub.specs.Trails.{Entry}
use Rattle.trail_setup.specs.declared.state.SetMask.{SetMask}
use Rattle.trail_setup.specs.declared.state.SetupState.{SetupState}
use Rattle.trail_setup.specs.Alone.{FollowsAlone}
use Rattle.trail_setup.specs.Masks.{Stands, all_bits, mask_in, preset_in}
use Rattle.trail_setup.specs.Modes.{is_granted, mode_said}

-- ---- one act

-- the bit is set, or taken
abbrev pub with_bit : Bit → Bool → List Bool → List Bool
with_bit Read value given = slice_set given 0 value
with_bit Write value given = slice_set given 1 value
with_bit Execute value given = slice_set given 2 value

-- open windows and who opened them, in the order in which they were opened
abbrev pub windows_after : Act → List (ℕ × UserId) → List (ℕ × UserId)
windows_after (act.Opened by w) rows = rows ++ (w, by) ∷ []
windows_after (act.Closed w) rows = filter (λ row. not (row.0 == w)) rows
windows_after a rows = rows

-- a mask is set
abbrev pub masked_in : UserId → UserId → Bit → Bool → List SetMask → List SetMask
masked_in by u bit value [] = record { by = by; user = u; left = with_bit bit value all_bits } ∷ []
masked_in by u bit value (m ∷ masks) =
    if same_user m.by by && same_user m.user u then record m { left = with_bit bit value m.left } ∷ masks
    else m ∷ masked_in by u bit value masks

-- what a user masks, and what is masked for them, begins anew
abbrev pub forgotten : UserId → List SetMask → List SetMask
forgotten u masks = filter (λ m. not (same_user m.by u) && not (same_user m.user u)) masks

abbrev pub masks_after : Act → List SetMask → List SetMask
masks_after (act.Known u) masks = forgotten u masks
masks_after (act.Gone u) masks = forgotten u masks
masks_after (act.Masked by u bit value) masks = masked_in by u bit value masks
masks_after a masks = masks

abbrev pub preset_after : PresetKind → Act → List Bool → List Bool
preset_after kind (act.Preset k bit value) given = if same_preset k kind then with_bit bit value given else given
preset_after kind a given = given

abbrev pub default_after : Act → LockMode → LockMode
default_after (act.Default mode) before = mode
default_after a before = before

-- the state follows one act: nothing of it is left out, and nothing else changes
pub record FollowsAct (a : Act) (old new : SetupState) : Type 0 where
  pub entries : FollowsAlone old.entries new.entries a
  pub windows : new.windows.items ≡ windows_after a old.windows.items
  pub masks : new.masks.items ≡ masks_after a old.masks.items
  pub on_windows : new.on_windows ≡ preset_after preset.Windows a old.on_windows
  pub on_commands : new.on_commands ≡ preset_after preset.Commands a old.on_commands
  pub default : new.default ≡ default_after a old.default
  pub rest : new ≡ record old {
    entries = new.entries;
    windows = new.windows;
    masks = new.masks;
    on_windows = new.on_windows;
    on_commands = new.on_commands;
    default = new.default;
  }

-- each of these acts, in their order
abbrev pub FollowsEach : List Act → SetupState → SetupState → Type 0
FollowsEach [] old new = new ≡ old
FollowsEach (a ∷ acts) old new = (between : SetupState) × FollowsAct a old between × FollowsEach acts between new

-- ---- one entry

-- a `quit` that was done
abbrev pub IsQuit : Entry → Type 0
IsQuit entry = IsOk entry.reply × (is_granted Quit entry.verdicts ≡ true)

-- A `quit` leaves the state as it is. Of another entry each act is followed, in order, and the mode is the one that
-- the entry says, or the old one if it says none.
abbrev pub FollowsEntry : Entry → SetupState → SetupState → Type 0
FollowsEntry entry old new =
    (IsQuit entry × (new ≡ old))
    ⊎ ((IsQuit entry → ⊥) × FollowsEach entry.acts (record old {
      mode = unwrap_or (mode_said old.owner entry) old.mode;
    }) new)

-- ---- the state stands for the history

-- after acts that may come after a history, the state stands for the history followed by them
abbrev pub StatesStand : Type 0
StatesStand =
    (acts : List Act) (old new : SetupState) (edition : Edition) (owner : UserId) (h : History)
    → FollowsEach acts old new → CanFollow edition owner h acts → Stands old edition owner h
    → Stands new edition owner (followed_by h acts)

-- the bit, of the three that are kept
abbrev pub bit_in : Bit → List Bool → Bool
bit_in Read given = slice_index_or given 0 false
bit_in Write given = slice_index_or given 1 false
bit_in Execute given = slice_index_or given 2 false

abbrev pub IsThree : List Bool → Type 0
IsThree given = length given ≡ 3

-- the mode of the locks of windows to come
abbrev pub default_of : History → LockMode
default_of [] = Off
default_of (a ∷ h) = default_after a (default_of h)

-- masks, presets and the default lock are those after a history
pub record IsAfter (s : SetupState) (h : History) : Type 0 where
  pub masks : (by u : UserId) (bit : Bit) → bit_in bit (mask_in s.masks.items by u) ≡ mask h by u bit
  pub presets : (kind : PresetKind) (bit : Bit) → bit_in bit (preset_in s kind) ≡ preset_of h kind bit
  pub default : s.default ≡ default_of h
  pub sized : AllByRecursion (λ m. IsThree m.left) s.masks.items
  pub three : IsThree s.on_windows × IsThree s.on_commands

-- after acts, masks, presets and the default lock are those after the history followed by them
abbrev pub StatesKeep : Type 0
StatesKeep =
    (acts : List Act) (old new : SetupState) (h : History) → FollowsEach acts old new → IsAfter old h
    → IsAfter new (followed_by h acts)
