-- What users who may not change rights can't bring about.
use Rattle.std.specs.Prelude.{◌≡◌, Bool, true, false, nat_lt, List, [], ◌∷◌}
use Rattle.std.specs.List.{AllByRecursion}
use Rattle.acl.specs.declared.user_id.UserId.{UserId}
use Rattle.acl.specs.declared.bits.Bit.{Bit}
use Rattle.acl.specs.declared.bits.Bit.TheVariants.{Execute}
use Rattle.acl.specs.declared.command_name.CommandName.{CommandName}
use Rattle.acl.specs.declared.act.Object.{Object}
use Rattle.acl.specs.declared.act.Object.TheVariants as object
use Rattle.command_lang.specs.Names.{name_of}
use Rattle.session_model.specs.Trace.{Entry}
use Rattle.session_model.specs.Tables.{Tables}
use Rattle.session_model.specs.Rights.{may_in}
use Rattle.session_model.specs.Given.{Given, commands_of}
use Rattle.session_model.specs.Run.{IsRunFrom, tables_from}
use Rattle.session_laws.specs.Changing.{changes_rights, SameLists}

-- a fact of each step of a run, the newest first, and of the tables before the step
abbrev pub AllSteps : (Tables → Entry → Type 0) → Tables → List Entry → Type 0
AllSteps P start [] = Unit {0}
AllSteps P start (e ∷ past) = AllSteps P start past × P (tables_from start past) e

-- none of these users has x on a command that changes rights; the owner, who has every right, isn't
-- among them
abbrev pub AreGuests : Tables → (UserId → Bool) → Type 0
AreGuests t guests =
    (user : UserId) (c : CommandName) → guests user ≡ true → changes_rights c ≡ true →
    may_in t user Execute (object.Command c) ≡ false

-- only these users give such commands in the step
abbrev pub ChangesAreTheirs : (UserId → Bool) → Tables → Entry → Type 0
ChangesAreTheirs guests t e =
    AllByRecursion (λ (g : Given).
    changes_rights (name_of g.order) ≡ true → guests g.caller.user ≡ true) (commands_of t e.event)

-- what was there at some moment: each command, and each window that had been opened
abbrev pub stood : Tables → Object → Bool
stood t (object.Window w) = nat_lt w t.next_window
stood t (object.Command c) = true

-- the known users, leaders, masks and presets are those of that moment, and so are the rights on
-- everything that was there then
pub record SameStanding (t u : Tables) : Type 0 where
  pub lists : SameLists t u
  pub rights :
      (user : UserId) (bit : Bit) (object : Object) → stood t object ≡ true →
      may_in u user bit object ≡ may_in t user bit object

-- As long as nobody else changes rights: whatever the guests do, and whatever else anyone does,
-- rights are unchanged, and the guests still have no x on the commands that change them.
pub record AreContained (t u : Tables) (guests : UserId → Bool) : Type 0 where
  pub rights : SameStanding t u
  pub as_before : AreGuests u guests

abbrev pub GuestsAreContained : Type 0
GuestsAreContained =
    (start : Tables) (later : List Entry) (guests : UserId → Bool) → AreGuests start guests →
    IsRunFrom start later → AllSteps (ChangesAreTheirs guests) start later →
    AreContained start (tables_from start later) guests
