-- The parts of a word, which stand between colons, and how each is printed and read.
use Rattle.std.specs.Prelude.{ℕ, ◌^◌, Bool, true, false, if◌then◌else◌, ◌==◌, List, [], ◌∷◌, ◌++◌}
use Rattle.std.specs.Prelude.{Option, Some, None, option_map, find, codes, decimal}
use Rattle.std.specs.Str.{bytes_eq}
use Prim.Native.Char.{code}
use Rattle.acl.specs.declared.act.Object.{Object}
use Rattle.acl.specs.declared.act.Object.TheVariants as object
use Rattle.acl.specs.declared.act.PresetKind.{PresetKind}
use Rattle.acl.specs.declared.act.PresetKind.TheVariants as preset
use Rattle.acl.specs.declared.act.LockMode.{LockMode}
use Rattle.acl.specs.declared.act.LockMode.TheVariants as mode
use Rattle.acl.specs.declared.bits.Bit.{Bit}
use Rattle.acl.specs.declared.bits.Bit.TheVariants as bit
use Rattle.acl.specs.declared.bits.BitChange.{BitChange}
use Rattle.acl.specs.declared.command_name.CommandName.{CommandName}
use Rattle.acl.specs.command_name.TheConstants.CommandName.{ALL}
use Rattle.acl.specs.declared.user_id.UserId.{UserId}
use Rattle.acl.specs.Names.{name_of, named_by}
use Rattle.command_lang.specs.Names.{name_text}
use Rattle.line_fields.specs.Cutting.{◌>>=◌, cut}
use Rattle.line_fields.specs.Numbers.{number_below}

-- ---- separators

abbrev pub blank : ℕ
blank = code " "

abbrev pub colon : ℕ
colon = code ":"

abbrev pub comma : ℕ
comma = code ","

-- a word, the separator after it, and then more
abbrev pub field : ℕ → List ℕ → List ℕ → List ℕ
field separator word rest = word ++ separator ∷ rest

-- ---- users in front of others

abbrev pub user_at : ℕ → List ℕ → Option (UserId × List ℕ)
user_at separator bytes = do
  parts ← cut separator bytes
  user ← named_by parts.0
  Some (user, parts.1)

-- ---- a user, or nobody

abbrev pub nobody : List ℕ
nobody = codes "-"

abbrev pub user_text : Option UserId → List ℕ
user_text None = nobody
user_text (Some u) = name_of u

abbrev pub some_user : UserId → Option (Option UserId)
some_user u = Some (Some u)

abbrev pub user_in : List ℕ → Option (Option UserId)
user_in word = if bytes_eq word nobody then Some None else named_by word >>= some_user

-- ---- bits

abbrev pub sign : Bool → ℕ
sign true = code "+"
sign false = code "-"

abbrev pub mark : Bit → ℕ
mark bit.Read = code "r"
mark bit.Write = code "w"
mark bit.Execute = code "x"

-- a bit that is given or taken, as `+w`
abbrev pub change_text : Bit → Bool → List ℕ
change_text b value = sign value ∷ mark b ∷ []

abbrev pub value_of : ℕ → Option Bool
value_of byte =
    if byte == code "+" then Some true else if byte == code "-" then Some false else None

abbrev pub bit_of : ℕ → Option Bit
bit_of byte =
    if byte == code "r" then Some bit.Read
    else if byte == code "w" then Some bit.Write
    else if byte == code "x" then Some bit.Execute
    else None

abbrev pub bit_in : List ℕ → Option Bit
bit_in (byte ∷ []) = bit_of byte
bit_in _ = None

abbrev pub change_in : List ℕ → Option BitChange
change_in (first ∷ second ∷ []) = do
  value ← value_of first
  bit ← bit_of second
  Some (record { bit = bit; value = value })
change_in _ = None

-- ---- objects: a window's serial, or a command's name

abbrev pub object_text : Object → List ℕ
object_text (object.Window w) = decimal w
object_text (object.Command c) = name_text c

-- the command of this name; aliases aren't names here
unfoldable pub command_in : List ℕ → Option CommandName
command_in word = find (λ c. bytes_eq (name_text c) word) ALL

abbrev pub window_or : Option CommandName → Option ℕ → Option Object
window_or c (Some w) = Some (object.Window w)
window_or c None = option_map object.Command c

abbrev pub object_in : List ℕ → Option Object
object_in word = window_or (command_in word) (number_below (2 ^ 32) word)

-- ---- modes and presets

abbrev pub mode_text : LockMode → List ℕ
mode_text mode.Off = codes "off"
mode_text mode.Auto = codes "auto"
mode_text mode.On = codes "on"

abbrev pub mode_in : List ℕ → Option LockMode
mode_in word =
    if bytes_eq word (codes "off") then Some mode.Off
    else if bytes_eq word (codes "auto") then Some mode.Auto
    else if bytes_eq word (codes "on") then Some mode.On
    else None

abbrev pub preset_text : PresetKind → List ℕ
preset_text preset.Windows = codes "?"
preset_text preset.Commands = codes "??"

abbrev pub preset_in : List ℕ → Option PresetKind
preset_in word =
    if bytes_eq word (codes "?") then Some preset.Windows
    else if bytes_eq word (codes "??") then Some preset.Commands
    else None
