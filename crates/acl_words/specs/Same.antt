-- Equality of the parts of an act, as `==` answers it.
use Rattle.std.specs.Prelude.{ℕ, Bool, true, false, nat_eq, ◌==◌}
use Rattle.std.specs.Cmp.Lexicographic.{pointwise}
use Rattle.acl_words.specs.declared.user_id.UserId.{UserId}
use Rattle.acl_words.specs.declared.bits.Bit.{Bit}
use Rattle.acl_words.specs.declared.bits.Bit.TheVariants.{Read, Write, Execute}
use Rattle.acl_words.specs.declared.act.Object.{Object}
use Rattle.acl_words.specs.declared.act.Object.TheVariants as object
use Rattle.acl_words.specs.declared.act.PresetKind.{PresetKind}
use Rattle.acl_words.specs.declared.act.PresetKind.TheVariants as preset
use Rattle.acl_words.specs.declared.command_name.CommandName.{CommandName}
use Rattle.acl_words.specs.declared.command_name.CommandName.TheVariants as command

-- whether two names are the same
abbrev pub same_user : UserId → UserId → Bool
same_user u v = pointwise nat_eq u.name v.name

-- the index of a command in the list of all commands
abbrev pub index_of_command : CommandName → ℕ
index_of_command command.Acladd = 0
index_of_command command.Aclchg = 1
index_of_command command.Acldel = 2
index_of_command command.Aclgrp = 3
index_of_command command.Aclumask = 4
index_of_command command.Writelock = 5
index_of_command command.Defwritelock = 6
index_of_command command.Multiuser = 7
index_of_command command.Wall = 8
index_of_command command.Detach = 9
index_of_command command.Select = 10
index_of_command command.Next = 11
index_of_command command.Prev = 12
index_of_command command.Other = 13
index_of_command command.Title = 14
index_of_command command.Number = 15
index_of_command command.Kill = 16
index_of_command command.Screen = 17
index_of_command command.Split = 18
index_of_command command.Focus = 19
index_of_command command.Remove = 20
index_of_command command.Only = 21
index_of_command command.Fit = 22
index_of_command command.Scrollview = 23
index_of_command command.Clear = 24
index_of_command command.Reset = 25
index_of_command command.Encoding = 26
index_of_command command.Stuff = 27
index_of_command command.Windows = 28
index_of_command command.Displays = 29
index_of_command command.Quit = 30

-- whether two commands are the same
abbrev pub same_command : CommandName → CommandName → Bool
same_command c d = index_of_command c == index_of_command d

-- the index of a bit; two bits are equal if their indices are
abbrev pub place_of_bit : Bit → ℕ
place_of_bit Read = 0
place_of_bit Write = 1
place_of_bit Execute = 2

abbrev pub same_bit : Bit → Bit → Bool
same_bit b c = place_of_bit b == place_of_bit c

-- whether two objects are the same
abbrev pub same_object : Object → Object → Bool
same_object (object.Window v) (object.Window w) = v == w
same_object (object.Command c) (object.Command d) = same_command c d
same_object _ _ = false

abbrev pub same_preset : PresetKind → PresetKind → Bool
same_preset preset.Windows preset.Windows = true
same_preset preset.Commands preset.Commands = true
same_preset _ _ = false
