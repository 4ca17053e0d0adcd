-- The table that the code keeps, and the histories that it stands for.
use Rattle.std.specs.Prelude.{◌≡◌, ℕ, Bool, true, false, ◌&&◌, ◌||◌, All, List, [], Option, is_some}
use Rattle.std.specs.Prelude.{slice_index_or, slice_set, replicate, unwrap_or, if◌then◌else◌}
use Rattle.std.specs.Option.{option_map_or}
use Rattle.std.specs.List.{list_any}
use Rattle.std.specs.Map.{lookup, keys_of}
use Rattle.acl_words.specs.declared.slots.TheConstants.{WINDOWS}
use Rattle.acl_words.specs.declared.command_name.TheConstants.CommandName.{COUNT}
use Rattle.acl_words.specs.Same.{same_user, index_of_command}
use Rattle.acl_words.specs.Leaders.{remaining_leaders}
use Rattle.acl_words.specs.BitSets.{allows, with_bit, no_bits, all_bits}
use Rattle.acl_words.specs.Slots.{slot_of, SlotsStandFor}
use Rattle.acl.specs.History.{History, is_known, users_of, is_open, open_count, mask, preset_of, has, leaders_of}
use Rattle.acl_words.specs.declared.user_id.UserId.{UserId}
use Rattle.acl_words.specs.declared.bits.Bit.{Bit}
use Rattle.acl_words.specs.declared.bits.Bits.{Bits}
use Rattle.acl_words.specs.declared.act.Object.{Object}
use Rattle.acl_words.specs.declared.act.Object.TheVariants.{Window, Command}
use Rattle.acl_words.specs.declared.act.PresetKind.{PresetKind}
use Rattle.acl_words.specs.declared.act.PresetKind.TheVariants as preset
use Rattle.acl_words.specs.declared.leaders.Edition.{Edition}
use Rattle.acl_words.specs.declared.entries.EntryDenial.{EntryDenial}
use Rattle.acl.specs.declared.rows.Row.{Row}

-- a session's rights: a row for each known user, masks by opener and user, and the slots of open
-- windows
pub record Table : Type 0 where
  pub edition : Edition
  pub owner : UserId
  pub rows : List (UserId × Row)
  pub masks : List ((UserId × UserId) × Bits)
  pub windows : List (Option ℕ)
  pub window_preset : Bits
  pub command_preset : Bits

abbrev pub row_of : Table → UserId → Option Row
row_of t u = lookup (same_user u) t.rows

-- the known users, in the order of their rows
abbrev pub users_in : Table → List UserId
users_in t = keys_of t.rows

abbrev pub knows : Table → UserId → Bool
knows t u = is_some (row_of t u)

abbrev pub shows : Table → ℕ → Bool
shows t w = is_some (slot_of t.windows w)

-- what a row has on an object
abbrev pub bits_on : List (Option ℕ) → Object → Row → Bits
bits_on windows (Window w) row =
    option_map_or (λ slot. slice_index_or row.windows slot no_bits) (slot_of windows w) no_bits
bits_on windows (Command c) row = slice_index_or row.commands (index_of_command c) no_bits

abbrev pub granted : Table → UserId → Bit → Object → Bool
granted t u bit object =
    option_map_or (λ row. allows bit (bits_on t.windows object row)) (row_of t u) false

abbrev pub same_pair : UserId × UserId → UserId × UserId → Bool
same_pair p q = same_user p.0 q.0 && same_user p.1 q.1

abbrev pub masked : Table → UserId → UserId → Bit → Bool
masked t by u bit = option_map_or (allows bit) (lookup (same_pair (by, u)) t.masks) true

abbrev pub preset_bits : Table → PresetKind → Bits
preset_bits t preset.Windows = t.window_preset
preset_bits t preset.Commands = t.command_preset

abbrev pub led_by : Table → UserId → List UserId
led_by t u = option_map_or (λ row. row.leaders) (row_of t u) []

-- whether an object is there: a command always is, a window if it is open
abbrev pub is_there : Table → Object → Bool
is_there t (Window w) = shows t w
is_there t (Command c) = true

-- the row of a name that becomes known
abbrev pub new_row : Bits → Bits → Row
new_row command_preset window_preset =
    record {
      commands = replicate COUNT command_preset;
      windows = replicate WINDOWS window_preset;
      leaders = [];
    }

-- the row, after `gone` leads nobody any more
abbrev pub without_leader : UserId → Row → Row
without_leader gone row = record row { leaders = remaining_leaders gone row.leaders }

-- what a mask says before it is set
abbrev pub mask_bits : List ((UserId × UserId) × Bits) → UserId → UserId → Bits
mask_bits masks by u = unwrap_or (lookup (same_pair (by, u)) masks) all_bits

-- what a user gets on a window that `by` opens
abbrev pub opening_bits : List ((UserId × UserId) × Bits) → UserId → UserId → Bits
opening_bits masks by u = if same_user by u then all_bits else mask_bits masks by u

-- the row, with these bits on the window that stands in the slot
abbrev pub with_window : ℕ → Bits → Row → Row
with_window slot bits row = record row { windows = slice_set row.windows slot bits }

-- the row, with the bit on the object set
abbrev pub with_right : List (Option ℕ) → Object → Bit → Bool → Row → Row
with_right windows (Window w) bit value row =
    option_map_or
    (λ slot. with_window slot (with_bit bit value (slice_index_or row.windows slot no_bits)) row)
    (slot_of windows w)
    row
with_right windows (Command c) bit value row =
    record row {
      commands =
          slice_set row.commands (index_of_command c)
          (with_bit bit value (slice_index_or row.commands (index_of_command c) no_bits));
    }

-- whether the table lets the user do it
abbrev pub lets : Table → UserId → Bit → Object → Bool
lets t u bit object =
    same_user t.owner u || granted t u bit object
    || list_any (λ leader. granted t leader bit object) (led_by t u)

-- the table is what the definitions give for this history of a session of this edition, with this
-- owner
pub record StandsFor (t : Table) (edition : Edition) (owner : UserId) (h : History) : Type 0 where
  pub edition_is : t.edition ≡ edition
  pub owned : t.owner ≡ owner
  pub users : users_in t ≡ users_of owner h
  pub known : (u : UserId) → knows t u ≡ is_known owner h u
  pub slots : SlotsStandFor t.windows (is_open h) (open_count h)
  pub rights : (u : UserId) (bit : Bit) (object : Object) → is_there t object ≡ true
      → granted t u bit object ≡ has owner h u bit object
  pub strangers : (u : UserId) (bit : Bit) (object : Object) → knows t u ≡ false
      → has owner h u bit object ≡ false
  pub led : (u : UserId) → led_by t u ≡ leaders_of edition h u
  pub masks : (by u : UserId) (bit : Bit) → masked t by u bit ≡ mask h by u bit
  pub presets : (kind : PresetKind) (bit : Bit)
      → allows bit (preset_bits t kind) ≡ preset_of h kind bit

-- a denial names the user, the bit and the object, and the user's leaders in their order; neither
-- the user's own entry nor a leader's has the bit
pub record IsDenial (edition : Edition) (owner : UserId) (h : History) (u : UserId) (bit : Bit)
    (object : Object) (d : EntryDenial)
    : Type 0 where
  pub user_is : d.user ≡ u
  pub bit_is : d.bit ≡ bit
  pub object_is : d.object ≡ object
  pub leaders_are : d.leaders ≡ leaders_of edition h u
  pub entry : has owner h u bit object ≡ false
  pub entries : All (λ leader. has owner h leader bit object ≡ false) d.leaders
