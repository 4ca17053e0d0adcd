-- What a command's name and words mean.
use Rattle.std.specs.Prelude.{ℕ, true, false, if◌then◌else◌, List, [], ◌∷◌, map, Option, Some, None}
use Rattle.std.specs.Option.{option_map, option_and_then}
use Rattle.acl.specs.declared.command_name.CommandName.{CommandName}
use Rattle.acl.specs.declared.command_name.CommandName.TheVariants as name
use Rattle.command_lang.specs.declared.command.Command.{Command}
use Rattle.command_lang.specs.declared.command.Command.TheVariants as command
use Rattle.strings.specs.declared.text.Word.{Word}
use Rattle.command_lang.specs.Values.{number_in, lock_mode_in, switch_in, coding_in, is_vertical, items_of, users_of}
use Rattle.command_lang.specs.Values.{leader_of, bits_of, mask_of}
use Rattle.command_lang.specs.Names.{command_named}

-- the command of a name alone
abbrev pub bare : CommandName → Option Command
bare name.Detach = Some command.Detach
bare name.Next = Some command.Next
bare name.Prev = Some command.Prev
bare name.Other = Some command.Other
bare name.Kill = Some command.Kill
bare name.Screen = Some command.Screen
bare name.Split = Some (command.Split false)
bare name.Focus = Some command.Focus
bare name.Remove = Some command.Remove
bare name.Only = Some command.Only
bare name.Fit = Some command.Fit
bare name.Clear = Some command.Clear
bare name.Reset = Some command.Reset
bare name.Windows = Some command.Windows
bare name.Displays = Some command.Displays
bare name.Quit = Some command.Quit
bare _ = None

-- the command of a name and one word
abbrev pub with_word : CommandName → List ℕ → Option Command
with_word name.Acladd text = Some (command.Acladd (users_of text))
with_word name.Acldel text = Some (command.Acldel text)
with_word name.Aclgrp text = Some (command.Aclgrp text None)
with_word name.Aclumask text = Some (command.Aclumask (mask_of text ∷ []))
with_word name.Writelock text = option_map command.Writelock (lock_mode_in text)
with_word name.Defwritelock text = option_map command.Defwritelock (lock_mode_in text)
with_word name.Multiuser text = option_map command.Multiuser (switch_in text)
with_word name.Wall text = Some (command.Wall text)
with_word name.Select text = Some (command.Select text)
with_word name.Title text = Some (command.Title text)
with_word name.Number text = option_map command.Number (number_in 39 text)
with_word name.Split text = if is_vertical text then Some (command.Split true) else None
with_word name.Scrollview text = option_map command.Scrollview (number_in 2000 text)
with_word name.Encoding text = option_map command.Encoding (coding_in text)
with_word name.Stuff text = Some (command.Stuff text)
with_word _ text = None

-- the command of a name and several words
abbrev pub with_words : CommandName → List (List ℕ) → Option Command
with_words name.Aclgrp (user ∷ leader ∷ []) = Some (command.Aclgrp user (Some (leader_of leader)))
with_words name.Aclchg (users ∷ bits ∷ list ∷ []) =
    Some (command.Aclchg (users_of users) (bits_of bits) (items_of list))
with_words name.Aclumask texts = Some (command.Aclumask (map mask_of texts))
with_words _ texts = None

abbrev pub command_of : CommandName → List (List ℕ) → Option Command
command_of n [] = bare n
command_of n (text ∷ []) = with_word n text
command_of n (text ∷ next ∷ texts) = with_words n (text ∷ next ∷ texts)

abbrev pub texts_of : List Word → List (List ℕ)
texts_of ws = map (λ w. w.text) ws

-- the command of a line's words
abbrev pub line_command : List Word → Option Command
line_command [] = None
line_command (w ∷ ws) = option_and_then (λ n. command_of n (texts_of ws)) (command_named w.text)
