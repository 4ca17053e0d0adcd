-- Which steps may change rights.
use Rattle.std.specs.Prelude.{◌≡◌, ℕ, Bool, true, false, ◌==◌, List, ◌⊎◌}
use Rattle.std.specs.List.{list_any}
use Rattle.acl.specs.declared.user_id.UserId.{UserId}
use Rattle.acl.specs.declared.bits.Bit.{Bit}
use Rattle.acl.specs.declared.bits.Bit.TheVariants.{Execute}
use Rattle.acl.specs.declared.command_name.CommandName.{CommandName}
use Rattle.acl.specs.declared.command_name.CommandName.TheVariants as name
use Rattle.acl.specs.declared.act.Act.{Act}
use Rattle.acl.specs.declared.act.Act.TheVariants as act
use Rattle.acl.specs.declared.act.Object.{Object}
use Rattle.acl.specs.declared.act.Object.TheVariants as object
use Rattle.acl.specs.declared.act.PresetKind.{PresetKind}
use Rattle.acl.specs.History.{mask, preset_of}
use Rattle.command_lang.specs.Names.{name_of}
use Rattle.session_model.specs.Trace.{Entry}
use Rattle.session_model.specs.Tables.{Tables, known_users, is_known}
use Rattle.session_model.specs.Rights.{may_in, leaders_in}
use Rattle.session_model.specs.Given.{Given, commands_of}
use Rattle.session_model.specs.Promises.{SomeOf}
use Rattle.session_model.specs.Run.{IsStep, after}

-- the commands that change users, rights, leaders, masks and presets
abbrev pub changes_rights : CommandName → Bool
changes_rights name.Acladd = true
changes_rights name.Aclchg = true
changes_rights name.Acldel = true
changes_rights name.Aclgrp = true
changes_rights name.Aclumask = true
changes_rights _ = false

-- whether acts open this window
abbrev pub opens_window : ℕ → Act → Bool
opens_window window (act.Opened by w) = w == window
opens_window window _ = false

abbrev pub opened_by : List Act → Object → Bool
opened_by acts (object.Window w) = list_any (opens_window w) acts
opened_by acts (object.Command c) = false

-- the same users are known, and their leaders, the masks and the presets are the same
pub record SameLists (t u : Tables) : Type 0 where
  pub users : known_users u ≡ known_users t
  pub known : (user : UserId) → is_known u user ≡ is_known t user
  pub leaders : (user : UserId) → leaders_in u user ≡ leaders_in t user
  pub masks : (by user : UserId) (bit : Bit) → mask u.acts by user bit ≡ mask t.acts by user bit
  pub presets :
      (kind : PresetKind) (bit : Bit) → preset_of u.acts kind bit ≡ preset_of t.acts kind bit

-- and each user may do what they might before, except on windows that these acts opened
pub record SameRights (t u : Tables) (acts : List Act) : Type 0 where
  pub lists : SameLists t u
  pub rights :
      (user : UserId) (bit : Bit) (object : Object) → opened_by acts object ≡ false →
      may_in u user bit object ≡ may_in t user bit object

-- in multiuser mode, a user gives one of these commands and has x on it
pub record MayChangeRights (t : Tables) (g : Given) : Type 0 where
  pub changes : changes_rights (name_of g.order) ≡ true
  pub multiuser : t.is_multiuser ≡ true
  pub granted : may_in t g.caller.user Execute (object.Command (name_of g.order)) ≡ true

-- a step leaves rights unchanged, or gives such a command
abbrev pub RightsAreGated : Tables → Entry → Type 0
RightsAreGated t e =
    SameRights t (after t e) e.acts ⊎ SomeOf (MayChangeRights t) (commands_of t e.event)

abbrev pub RightsGate : Type 0
RightsGate = (t : Tables) (e : Entry) → IsStep t e → RightsAreGated t e
