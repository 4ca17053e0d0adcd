-- How windows, users and objects are named.
use Rattle.std.specs.Prelude.{ℕ, nat_eq, List, [], ◌∷◌, ◌++◌, Option, Some, if◌then◌else◌, map, codes}
use Rattle.std.specs.List.{list_any, flat_map}
use Rattle.std.specs.Option.{option_map, option_or, option_and_then}
use Rattle.std.specs.Str.{bytes_eq}
use Prim.Native.Char.{code}
use Rattle.acl.specs.declared.user_id.UserId.{UserId}
use Rattle.acl.specs.declared.act.Object.{Object}
use Rattle.acl.specs.declared.act.Object.TheVariants as object
use Rattle.acl.specs.declared.act.PresetKind.TheVariants as preset
use Rattle.acl.specs.declared.bits.BitChange.{BitChange}
use Rattle.acl.specs.declared.entries.NewLeader.{NewLeader}
use Rattle.acl.specs.declared.entries.NewLeader.TheVariants as new_leader
use Rattle.acl.specs.declared.entries.MaskEntry.{MaskEntry}
use Rattle.acl.specs.declared.entries.MaskScope.{MaskScope}
use Rattle.acl.specs.declared.entries.MaskScope.TheVariants as scope
use Rattle.acl.specs.Names.{named_by}
use Rattle.command_lang.specs.declared.command.Users.{Users}
use Rattle.command_lang.specs.declared.command.Users.TheVariants as users
use Rattle.command_lang.specs.declared.command.Leader.{Leader}
use Rattle.command_lang.specs.declared.command.Leader.TheVariants as leader
use Rattle.command_lang.specs.declared.command.Mask.{Mask}
use Rattle.command_lang.specs.Names.{all_names, command_named}
use Rattle.session_model.specs.Tables.{Window, Tables, others}
pub use Rattle.command_lang.specs.Values.{is_wide}
pub use Rattle.windows_model.specs.Naming.{has_number, with_number, lower, lowest, higher, highest}
pub use Rattle.windows_model.specs.Naming.{window_named, spelled, window_after, window_before}
pub use Rattle.windows_model.specs.Naming.{free_number, is_one_or_two, has_columns, is_title}

-- ---- users and objects of list commands

-- `*` means all known users but the owner; a word that is no name names nobody
abbrev pub names_of : Tables → Users → List (Option UserId)
names_of t users.All = map (λ u. Some u) (others t)
names_of t (users.Listed words) = map named_by words

abbrev pub every_window : Tables → List Object
every_window t = map (λ (w : Window). object.Window w.serial) t.windows

abbrev pub every_command : List Object
every_command = map object.Command all_names

abbrev pub wide_objects : Tables → List ℕ → List Object
wide_objects t item =
    (if list_any (nat_eq (code "#")) item then every_window t else [])
    ++ (if list_any (nat_eq (code "?")) item then every_command else [])

-- the objects of an item of a list: `#` and `?`, a command by its name or alias, or a window; None
-- if the item names nothing
abbrev pub item_objects : Tables → List ℕ → Option (List Object)
item_objects t item =
    if is_wide item then Some (wide_objects t item)
    else option_or (option_map (λ c. object.Command c ∷ []) (command_named item))
    (option_map (λ (w : Window). object.Window w.serial ∷ []) (window_named t.windows item))

-- the objects of all items; None if one of them names nothing
abbrev pub objects_of : Tables → List (List ℕ) → Option (List Object)
objects_of t [] = Some []
objects_of t (item ∷ items) =
    option_and_then (λ objects. option_map (λ more. objects ++ more) (objects_of t items))
    (item_objects t item)

-- the leader that the word means: nobody for `none`
abbrev pub new_leader_of : Leader → NewLeader
new_leader_of leader.Nobody = new_leader.Nobody
new_leader_of (leader.Named word) = new_leader.Named (named_by word)

-- which mask is set: `?` and `??` by themselves are the presets for windows and for commands; no
-- names, or `*`, mean all known users but the owner
abbrev pub word_scope : List ℕ → MaskScope
word_scope word =
    if bytes_eq word (codes "?") then scope.Preset preset.Windows
    else if bytes_eq word (codes "??") then scope.Preset preset.Commands
    else scope.User (named_by word)

abbrev pub scopes_of : Tables → Option Users → List MaskScope
scopes_of t (Some (users.Listed (word ∷ []))) = word_scope word ∷ []
scopes_of t (Some (users.Listed words)) = map (λ word. scope.User (named_by word)) words
scopes_of t _ = map (λ u. scope.User (Some u)) (others t)

-- the entries of a mask, user by user, and bit by bit
abbrev pub entries_of : Tables → Mask → List MaskEntry
entries_of t mask =
    flat_map (λ s. map (λ (b : BitChange). record { scope = s; bit = b.bit; value = b.value })
    mask.bits)
    (scopes_of t mask.users)
