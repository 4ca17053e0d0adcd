-- Which mode the session of a trail is in, as far as an entry says so.
use Rattle.std.specs.Prelude.{Bool, true, false, ◌&&◌, if◌then◌else◌, ℕ, List, [], ◌∷◌, Option, Some}
use Rattle.std.specs.Prelude.{None, Result, Ok, Err}
use Rattle.std.specs.List.{list_all, list_any}
use Rattle.acl.specs.declared.act.Act.{Act}
use Rattle.acl.specs.declared.act.Act.TheVariants as act
use Rattle.acl.specs.declared.act.Object.TheVariants as object
use Rattle.acl.specs.declared.command_name.CommandName.{CommandName}
use Rattle.acl.specs.declared.command_name.CommandName.TheVariants as name
use Rattle.acl.specs.declared.user_id.UserId.{UserId}
use Rattle.acl.specs.Same.{same_command, same_user}
use Rattle.command_lang.specs.declared.command.Command.{Command}
use Rattle.command_lang.specs.declared.command.Command.TheVariants as command
use Rattle.command_lang.specs.declared.fault.ParseFault.{ParseFault}
use Rattle.command_lang.specs.Relation.{read_line}
use Rattle.hub.specs.kept.Kept.{Kept}
use Rattle.hub.specs.kept.Kept.TheVariants as kept
use Rattle.hub.specs.Legal.{from_command, passes}
use Rattle.hub.specs.Trails.{Ending, Entry}
use Rattle.session.specs.refusal.Refusal.TheVariants.{NotMultiuser}
use Rattle.session.specs.refusal.Verdict.{Verdict}
use Rattle.session.specs.refusal.Verdict.TheVariants.{Right as right}
use Rattle.trail_setup.specs.declared.mode.ModeSeen.{ModeSeen}
use Rattle.trail_setup.specs.declared.mode.ModeSeen.TheVariants.{Multiuser, Single, Unsaid}

-- ---- commands that were granted

-- whether the verdict is of a right on this command
abbrev pub is_of : CommandName → Verdict → Bool
is_of name (right user bit (object.Command c) answer) = same_command c name
is_of name v = false

abbrev pub is_first : CommandName → List Verdict → Bool
is_first name [] = false
is_first name (v ∷ verdicts) = is_of name v

-- x on this command was asked for, and all verdicts of the command pass
abbrev pub is_granted : CommandName → List Verdict → Bool
is_granted name verdicts = is_first name (from_command verdicts) && list_all passes (from_command verdicts)

-- a command that is done in multiuser mode alone
abbrev pub is_list_granted : List Verdict → Bool
is_list_granted verdicts = list_any (λ n. is_granted n verdicts)
    (name.Acladd ∷ name.Aclchg ∷ name.Acldel ∷ name.Aclgrp ∷ name.Aclumask ∷ [])

-- ---- what an entry says

-- only the owner attaches and opens windows in single-user mode
abbrev pub mode_for : UserId → UserId → Option ModeSeen
mode_for owner user = if same_user owner user then None else Some Multiuser

abbrev pub mode_by : Result Command ParseFault → Option ModeSeen
mode_by (Ok (command.Multiuser on)) = Some (if on then Multiuser else Single)
mode_by _ = None

-- a command's line that was done
abbrev pub line_mode : List ℕ → Option ModeSeen
line_mode line = mode_by (read_line line)

abbrev pub is_parting : Act → Bool
is_parting (act.Parted client) = true
is_parting a = false

abbrev pub sends_away : List Act → Bool
sends_away acts = list_any is_parting acts

abbrev pub are_any : List Act → Bool
are_any [] = false
are_any (a ∷ acts) = true

-- What is typed is answered ok even if it is refused. So a denied `multiuser` says nothing, nor does a command on lists
-- without acts. The trail doesn't have its words: a granted `multiuser` that sends somebody away was `multiuser off`.
abbrev pub typed_mode : List Verdict → List Act → Option ModeSeen
typed_mode verdicts acts =
    if is_granted name.Multiuser verdicts then Some (if sends_away acts then Single else Unsaid)
    else if are_any acts && is_list_granted verdicts then Some Multiuser
    else None

abbrev pub done_mode : UserId → Kept → List Verdict → List Act → Option ModeSeen
done_mode owner (kept.Attach user rows columns) verdicts acts = mode_for owner user
done_mode owner (kept.Open user rows columns keep title) verdicts acts = mode_for owner user
done_mode owner (kept.Command user window line) verdicts acts =
    if is_list_granted verdicts then Some Multiuser else line_mode line
done_mode owner (kept.Keys client) verdicts acts = typed_mode verdicts acts
done_mode owner event verdicts acts = None

abbrev pub ended_mode : UserId → Entry → Ending → Option ModeSeen
ended_mode owner entry (Ok finished) = done_mode owner entry.event entry.verdicts entry.acts
ended_mode owner entry (Err NotMultiuser) = Some Single
ended_mode owner entry (Err refusal) = None

-- the mode after an entry of this owner's trail, if the entry says it
abbrev pub mode_said : UserId → Entry → Option ModeSeen
mode_said owner entry = ended_mode owner entry entry.reply
