-- What each command needs besides x on itself: what its row says, except that `writelock off` gives
-- nothing that w guards.
use Rattle.std.specs.Prelude.{true}
use Rattle.acl.specs.declared.act.LockMode.{LockMode}
use Rattle.acl.specs.declared.act.LockMode.TheVariants.{Off, Auto, On}
use Rattle.command_lang.specs.declared.command.Command.{Command}
use Rattle.command_lang.specs.declared.command.Command.TheVariants as command
use Rattle.command_lang.specs.declared.needs.Needs.{Needs}
use Rattle.command_lang.specs.declared.needs.TheConstants.{WINDOW, TYPING}
use Rattle.command_lang.specs.Rows.{row}
use Rattle.command_lang.specs.Names.{name_of}

abbrev pub typing : Needs
typing = TYPING

abbrev pub of_lock : LockMode → Needs
of_lock Off = record WINDOW { lock = true }
of_lock Auto = typing
of_lock On = typing

abbrev pub needs : Command → Needs
needs (command.Writelock mode) = of_lock mode
needs c = (row (name_of c)).needs
