-- What a command's line says of users and rights, act by act. It isn't stated here which windows a
-- line means: a trail doesn't hold the window of an item.
use Rattle.std.specs.Prelude.{ℕ, Bool, true, false, not, ◌&&◌, nat_eq, List, Option, Some, None, if◌then◌else◌}
use Rattle.std.specs.List.{list_any}
use Rattle.std.specs.Option.{option_map_or}
use Prim.Native.Char.{code}
use Rattle.acl.specs.declared.act.Act.{Act}
use Rattle.acl.specs.declared.act.Act.TheVariants as act
use Rattle.acl.specs.declared.act.Object.{Object}
use Rattle.acl.specs.declared.act.Object.TheVariants as object
use Rattle.acl.specs.declared.bits.Bit.{Bit}
use Rattle.acl.specs.declared.bits.BitChange.{BitChange}
use Rattle.acl.specs.declared.command_name.CommandName.{CommandName}
use Rattle.acl.specs.declared.user_id.UserId.{UserId}
use Rattle.acl.specs.Commands.{names_user, chosen_leader}
use Rattle.acl.specs.History.{History, among, users_of}
use Rattle.acl.specs.Names.{named_by}
use Rattle.acl.specs.Same.{same_user, same_bit, same_command}
use Rattle.command_lang.specs.declared.command.Command.{Command}
use Rattle.command_lang.specs.declared.command.Command.TheVariants as command
use Rattle.command_lang.specs.declared.command.Users.{Users}
use Rattle.command_lang.specs.declared.command.Users.TheVariants as users
use Rattle.command_lang.specs.Names.{command_named}
use Rattle.session.specs.Naming.{is_wide, new_leader_of}

-- ---- words

-- whether the words name a user; `*` means all known users but the owner
abbrev pub is_named : UserId → History → Users → UserId → Bool
is_named owner h users.All u = not (same_user owner u) && among (users_of owner h) u
is_named owner h (users.Listed words) u = list_any (λ w. names_user u (named_by w)) words

abbrev pub same_value : Bool → Bool → Bool
same_value true b = b
same_value false b = not b

-- whether the changes give this bit this value
abbrev pub changes : List BitChange → Bit → Bool → Bool
changes bits bit value =
    list_any (λ (c : BitChange). same_bit c.bit bit && same_value c.value value) bits

-- whether an item names the command: `?` names all commands, and else a name or an alias names one
abbrev pub item_says : CommandName → List ℕ → Bool
item_says c item =
    if is_wide item then list_any (nat_eq (code "?")) item
    else option_map_or (λ d. same_command d c) (command_named item) false

abbrev pub items_say : List (List ℕ) → Object → Bool
items_say items (object.Window w) = true
items_say items (object.Command c) = list_any (item_says c) items

abbrev pub same_leader : Option UserId → Option UserId → Bool
same_leader None None = true
same_leader (Some u) (Some v) = same_user u v
same_leader _ _ = false

-- ---- acts

-- whether an acladd or an aclchg names the user
abbrev pub concerns : UserId → History → Command → UserId → Bool
concerns owner h (command.Acladd names) u = is_named owner h names u
concerns owner h (command.Aclchg names bits list) u = is_named owner h names u
concerns owner h c u = false

-- whether the command gives a bit on an object this value; acladd gives each bit on each object
abbrev pub gives : Command → Bit → Object → Bool → Bool
gives (command.Acladd names) bit place value = value
gives (command.Aclchg names bits list) bit place value =
    changes bits bit value && items_say list place
gives c bit place value = false

abbrev pub removes : Command → UserId → Bool
removes (command.Acldel word) u = names_user u (named_by word)
removes c u = false

abbrev pub leads : Command → UserId → Option UserId → Bool
leads (command.Aclgrp word (Some leader)) u v =
    names_user u (named_by word) && same_leader (chosen_leader (new_leader_of leader)) v
leads c u v = false

-- whether the line says the act; acts on anything but users and rights need not be said
abbrev pub says : UserId → History → Command → Act → Bool
says owner h c (act.Known u) = concerns owner h c u
says owner h c (act.Set u bit place value) = concerns owner h c u && gives c bit place value
says owner h c (act.Gone u) = removes c u
says owner h c (act.Grouped u leader) = leads c u leader
says owner h c a = true
