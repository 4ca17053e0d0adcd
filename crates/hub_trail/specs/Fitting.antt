-- Which acts an event can have, act by act for commands.
use Rattle.std.specs.Prelude.{ℕ, Bool, true, false, ◌&&◌, ◌||◌, ◌==◌, List, [], ◌∷◌, Option, Some, None}
use Rattle.std.specs.List.{list_any, list_all}
use Rattle.acl.specs.declared.act.Act.{Act}
use Rattle.acl.specs.declared.act.Act.TheVariants as act
use Rattle.acl.specs.declared.act.Object.TheVariants as object
use Rattle.acl.specs.declared.bits.Bit.TheVariants.{Execute}
use Rattle.acl.specs.declared.command_name.CommandName.{CommandName}
use Rattle.acl.specs.declared.command_name.CommandName.TheVariants as name
use Rattle.acl.specs.declared.user_id.UserId.{UserId}
use Rattle.acl.specs.Same.{same_user, same_command}
use Rattle.session.specs.refusal.Verdict.{Verdict}
use Rattle.session.specs.refusal.Verdict.TheVariants.{Right as right}

-- ---- commands

abbrev pub is_one_of : List CommandName → CommandName → Bool
is_one_of names c = list_any (same_command c) names

-- the commands that can change a client's page
abbrev pub turns_page : CommandName → Bool
turns_page c =
    is_one_of
    (name.Select ∷ name.Next ∷ name.Prev ∷ name.Other ∷ name.Split ∷ name.Focus
    ∷ name.Remove ∷ name.Only ∷ name.Scrollview ∷ name.Detach ∷ []) c

-- the commands that close windows, or that end other users' clients
abbrev pub sends_away : CommandName → Bool
sends_away c = is_one_of (name.Acldel ∷ name.Multiuser ∷ name.Kill ∷ name.Quit ∷ []) c

-- the commands by which their user can enter a window
abbrev pub enters : CommandName → Bool
enters c =
    is_one_of
    (name.Select ∷ name.Next ∷ name.Prev ∷ name.Other ∷ name.Focus ∷ name.Remove ∷ []) c

-- whether a command comes by keys of this client
abbrev pub is_client : Option ℕ → ℕ → Bool
is_client None client = false
is_client (Some c) client = c == client

-- whether a user's command of this name can do the act; the client is given if the command came by
-- keys
abbrev pub makes : Option ℕ → UserId → CommandName → Act → Bool
makes client user c (act.Known u) = is_one_of (name.Acladd ∷ name.Aclchg ∷ []) c
makes client user c (act.Set u bit place value) = is_one_of (name.Acladd ∷ name.Aclchg ∷ []) c
makes client user c (act.Gone u) = same_command c name.Acldel
makes client user c (act.Grouped u leader) = same_command c name.Aclgrp
makes client user c (act.Masked by u bit value) =
    same_command c name.Aclumask && same_user by user
makes client user c (act.Preset kind bit value) = same_command c name.Aclumask
makes client user c (act.Opened by w) = false
makes client user c (act.Closed w) = is_one_of (name.Kill ∷ name.Quit ∷ []) c
makes client user c (act.Attached d u) = false
makes client user c (act.Parted d) =
    is_one_of (name.Acldel ∷ name.Multiuser ∷ name.Quit ∷ []) c
    || (same_command c name.Detach && is_client client d)
makes client user c (act.Entered u w) = enters c && same_user u user
makes client user c (act.Left u w) = sends_away c || (turns_page c && same_user u user)
makes client user c (act.Mode by w mode) = same_command c name.Writelock && same_user by user
makes client user c (act.Default mode) = same_command c name.Defwritelock

-- whether the command for which the first verdict asks can do all the acts; without such a verdict
-- there may be none
abbrev pub made_by : Option ℕ → List Verdict → List Act → Bool
made_by client (right user Execute (object.Command c) answer ∷ vs) acts =
    list_all (makes client user c) acts
made_by client vs [] = true
made_by client vs (a ∷ acts) = false

-- ---- other events

-- the user enters at most one window
abbrev pub enters_once : UserId → List Act → Bool
enters_once user [] = true
enters_once user (act.Entered u w ∷ []) = same_user u user
enters_once user acts = false

-- this client of the user is attached, and then the user enters at most one window
abbrev pub attaches_one : ℕ → UserId → List Act → Bool
attaches_one client user (act.Attached c u ∷ acts) =
    ((c == client) && same_user u user) && enters_once user acts
attaches_one client user acts = false

-- the user opens this window
abbrev pub opens_one : ℕ → UserId → List Act → Bool
opens_one window user (act.Opened by w ∷ []) = (w == window) && same_user by user
opens_one window user acts = false

-- this client goes, or its user leaves a window
abbrev pub detaches : (UserId → Bool) → ℕ → Act → Bool
detaches is_its_user client (act.Parted c) = c == client
detaches is_its_user client (act.Left u w) = is_its_user u
detaches is_its_user client a = false

-- this window closes, or a user leaves it
abbrev pub shuts : ℕ → Act → Bool
shuts window (act.Closed w) = w == window
shuts window (act.Left u w) = w == window
shuts window a = false
