-- The names of the commands, by their table.
use Rattle.std.specs.Prelude.{◌≡◌, ℕ, Bool, false, ◌||◌, List, [], ◌∷◌, Option, Some, None, find, map, codes}
use Rattle.std.specs.Str.{bytes_eq}
use Rattle.acl.specs.declared.command_name.CommandName.{CommandName}
use Rattle.acl.specs.declared.command_name.CommandName.TheVariants as name
use Rattle.acl.specs.command_name.TheConstants.CommandName.{ALL}
use Rattle.command_lang.specs.Rows.{row}
use Rattle.command_lang.specs.declared.command.Command.{Command}
use Rattle.command_lang.specs.declared.command.Command.TheVariants as command

-- the word that names a command
abbrev pub name_text : CommandName → List ℕ
name_text n = (row n).name

abbrev pub is_alias : Option (List ℕ) → List ℕ → Bool
is_alias None word = false
is_alias (Some alias) word = bytes_eq alias word

abbrev pub is_called : List ℕ → CommandName → Bool
is_called word n = bytes_eq (name_text n) word || is_alias (row n).alias word

abbrev pub all_names : List CommandName
all_names = ALL

-- the names in this order are those of the GNU Screen manual; scrollview is this project's own
abbrev pub names_of_manual : List (List ℕ)
names_of_manual =
    codes "acladd" ∷ codes "aclchg" ∷ codes "acldel" ∷ codes "aclgrp" ∷ codes "aclumask"
    ∷ codes "writelock" ∷ codes "defwritelock" ∷ codes "multiuser" ∷ codes "wall" ∷ codes "detach"
    ∷ codes "select" ∷ codes "next" ∷ codes "prev" ∷ codes "other" ∷ codes "title" ∷ codes "number"
    ∷ codes "kill" ∷ codes "screen" ∷ codes "split" ∷ codes "focus" ∷ codes "remove" ∷ codes "only"
    ∷ codes "fit" ∷ codes "scrollview" ∷ codes "clear" ∷ codes "reset" ∷ codes "encoding"
    ∷ codes "stuff" ∷ codes "windows" ∷ codes "displays" ∷ codes "quit" ∷ []

abbrev pub AreNamed : Type 0
AreNamed = map name_text all_names ≡ names_of_manual

-- the command that a word names, by its name or alias
unfoldable pub command_named : List ℕ → Option CommandName
command_named word = find (is_called word) all_names

-- the name of a command
abbrev pub name_of : Command → CommandName
name_of (command.Acladd a) = name.Acladd
name_of (command.Aclchg a b c) = name.Aclchg
name_of (command.Acldel a) = name.Acldel
name_of (command.Aclgrp a b) = name.Aclgrp
name_of (command.Aclumask a) = name.Aclumask
name_of (command.Writelock a) = name.Writelock
name_of (command.Defwritelock a) = name.Defwritelock
name_of (command.Multiuser a) = name.Multiuser
name_of (command.Wall a) = name.Wall
name_of command.Detach = name.Detach
name_of (command.Select a) = name.Select
name_of command.Next = name.Next
name_of command.Prev = name.Prev
name_of command.Other = name.Other
name_of (command.Title a) = name.Title
name_of (command.Number a) = name.Number
name_of command.Kill = name.Kill
name_of command.Screen = name.Screen
name_of (command.Split a) = name.Split
name_of command.Focus = name.Focus
name_of command.Remove = name.Remove
name_of command.Only = name.Only
name_of command.Fit = name.Fit
name_of (command.Scrollview a) = name.Scrollview
name_of command.Clear = name.Clear
name_of command.Reset = name.Reset
name_of (command.Encoding a) = name.Encoding
name_of (command.Stuff a) = name.Stuff
name_of command.Windows = name.Windows
name_of command.Displays = name.Displays
name_of command.Quit = name.Quit
