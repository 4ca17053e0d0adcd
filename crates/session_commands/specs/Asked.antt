-- What the words of commands on the lists stand for, and what such a command answers.
use Rattle.std.specs.Prelude.{ℕ, ◌≡◌, ◌⊎◌, ◌++◌, not, List, [], ◌∷◌, Option, Some, None}
use Rattle.std.specs.Prelude.{Result, Ok, Err, if◌then◌else◌, map, filter, nat_eq}
use Rattle.std.specs.List.{list_any, flat_map}
use Rattle.std.specs.Option.{option_map, option_or}
use Prim.Native.Char.{code}
use Rattle.acl.specs.declared.user_id.UserId.{UserId}
use Rattle.acl.specs.declared.act.Object.{Object}
use Rattle.acl.specs.declared.act.Object.TheVariants as object
use Rattle.acl.specs.declared.bits.BitChange.{BitChange}
use Rattle.acl.specs.declared.entries.MaskEntry.{MaskEntry}
use Rattle.acl.specs.declared.entries.MaskScope.{MaskScope}
use Rattle.acl.specs.declared.entries.AclFault.{AclFault}
use Rattle.acl.specs.declared.entries.AclFault.TheVariants as fault
use Rattle.acl.specs.Names.{named_by}
use Rattle.acl.specs.Same.{same_user}
use Rattle.acl.specs.Table.{Table, users_in}
use Rattle.command_lang.specs.declared.command.Users.{Users}
use Rattle.command_lang.specs.declared.command.Users.TheVariants as users
use Rattle.command_lang.specs.Names.{command_named}
use Rattle.session_model.specs.declared.refusal.Refusal.{Refusal}
use Rattle.session_model.specs.declared.refusal.Refusal.TheVariants as refusal
use Rattle.session_model.specs.rows.WindowsFault.TheVariants.{NoSuchWindow}
use Rattle.session_model.specs.Tables as model
use Rattle.session_model.specs.Tables.{Tables, others}
use Rattle.session_model.specs.Naming.{every_command, window_named, names_of}
use Rattle.windows.specs.declared.window.Window.{Window}

-- ---- users

-- the user that a word names
abbrev pub named : List ℕ → Option UserId
named word = named_by word

-- all known users but the owner
abbrev pub other_names : Table → List (Option UserId)
other_names a = map (λ u. Some u) (filter (λ u. not (same_user a.owner u)) (users_in a))

-- ---- objects

-- a window as an object
abbrev pub window_object : Window → Object
window_object w = object.Window w.serial

-- what an item of # and ? names
abbrev pub wide : List Window → List ℕ → List Object
wide windows item =
    (if list_any (nat_eq (code "#")) item then map window_object windows else [])
    ++ (if list_any (nat_eq (code "?")) item then every_command else [])

-- the one command or window that an item names
abbrev pub object_named : Tables → List ℕ → Option Object
object_named t item =
    option_or (option_map object.Command (command_named item))
    (option_map (λ (w : model.Window). object.Window w.serial) (window_named t.windows item))

-- something is named, and comes after what was there
abbrev pub Names : Option (List Object) → List Object → List Object → Type 0
Names found before after =
    (objects : List Object) × (found ≡ Some objects) × (after ≡ before ++ objects)

-- nothing is named, or memory was refused
abbrev pub NamesNothing : Refusal → Type 0 → Type 0
NamesNothing r Nothing =
    (r ≡ refusal.NoMemory) ⊎ ((r ≡ refusal.Windows NoSuchWindow) × Nothing)

-- ---- masks

-- the word of a mask with one word for its users
abbrev pub lone_word : Option Users → Option (List ℕ)
lone_word (Some (users.Listed (word ∷ []))) = Some word
lone_word _ = None

-- the users of a mask
abbrev pub names_in : Tables → Option Users → List (Option UserId)
names_in t (Some names) = names_of t names
names_in t None = map (λ u. Some u) (others t)

-- a bit of a mask
abbrev pub mask_entry : MaskScope → BitChange → MaskEntry
mask_entry s b = record { scope = s; bit = b.bit; value = b.value }

-- all bits of a mask
abbrev pub entries_on : List BitChange → List MaskScope → List MaskEntry
entries_on bits scopes = flat_map (λ s. map (mask_entry s) bits) scopes

-- ---- answers

-- a fault of the lists as a refusal
abbrev pub refusal_of : AclFault → Refusal
refusal_of fault.NoMemory = refusal.NoMemory
refusal_of f = refusal.Acl f

-- a command on the lists was done, and lists nothing; or it was refused
abbrev pub answered : {X : Type 0} → Result X AclFault → Result (Option (List ℕ)) Refusal
answered (Ok x) = Ok None
answered (Err f) = Err (refusal_of f)
