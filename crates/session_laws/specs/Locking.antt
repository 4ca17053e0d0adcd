-- Who gets the write lock of a window.
use Rattle.std.specs.Prelude.{◌≡◌, ◌⊎◌, ℕ, Bool, true, false, Option, Some, None}
use Rattle.std.specs.Option.{option_map}
use Rattle.acl.specs.declared.user_id.UserId.{UserId}
use Rattle.acl.specs.declared.bits.Bit.TheVariants.{Write, Execute}
use Rattle.acl.specs.declared.command_name.CommandName.{CommandName}
use Rattle.acl.specs.declared.act.Object.TheVariants as object
use Rattle.command_lang.specs.declared.command.Command.{Command as Order}
use Rattle.command_lang.specs.declared.command.Command.TheVariants as command
use Rattle.session_model.specs.Trace.{EventValue, Attach, Detach, Keys, Command, Resize, Open}
use Rattle.session_model.specs.Trace.{Output, Closed, Draw, Entry, Trace}
use Rattle.session_model.specs.Tables.{Tables, Client, client_at}
use Rattle.session_model.specs.Rights.{may_in, holder_in}
use Rattle.session_model.specs.Given.{Given, commands_of, has_x}
use Rattle.session_model.specs.Promises.{SomeOf}
use Rattle.session_model.specs.Sound.{AreFit}
use Rattle.session_model.specs.Run.{IsStep, IsRun, after, tables_of}
use Rattle.session_laws.specs.Changing.{changes_rights, opened_by}
use Rattle.session_laws.specs.Contained.{stood}

-- who gives an event: a user, or a client; nobody, if a window's program writes or ends
pub data Giver : Type 0 where
  OfUser : (user : UserId) → Giver
  OfClient : (client : ℕ) → Giver
  OfNobody : Giver

abbrev pub giver_of : EventValue → Giver
giver_of (Attach user rows columns) = OfUser user
giver_of (Detach client) = OfClient client
giver_of (Keys client bytes) = OfClient client
giver_of (Command user number line) = OfUser user
giver_of (Resize client rows columns) = OfClient client
giver_of (Open user rows columns keep title) = OfUser user
giver_of (Output window bytes) = OfNobody
giver_of (Closed window) = OfNobody
giver_of (Draw client) = OfClient client

abbrev pub client_user : Tables → ℕ → Option UserId
client_user t client = option_map (λ (c : Client). c.user) (client_at t client)

abbrev pub user_by : Tables → Giver → Option UserId
user_by t (OfUser user) = Some user
user_by t (OfClient client) = client_user t client
user_by t OfNobody = None

-- the user whose step it is
abbrev pub user_of : Tables → EventValue → Option UserId
user_of t event = user_by t (giver_of event)

-- the holder of a window's lock may write there
abbrev pub HoldersMayWrite : Tables → Type 0
HoldersMayWrite t =
    (window : ℕ) (user : UserId) → holder_in t window ≡ Some user →
    may_in t user Write (object.Window window) ≡ true

abbrev pub StepsKeepHolders : Type 0
StepsKeepHolders =
    (t : Tables) (e : Entry) → IsStep t e → HoldersMayWrite t → HoldersMayWrite (after t e)

abbrev pub RunsHaveHolders : Type 0
RunsHaveHolders = (h : Trace) → IsRun h → HoldersMayWrite (tables_of h)

-- it is the user's own step, in which they had w on the window, or opened it
pub record TakesIt (t : Tables) (e : Entry) (window : ℕ) (user : UserId) : Type 0 where
  pub own : user_of t e.event ≡ Some user
  pub may :
      (opened_by e.acts (object.Window window) ≡ true)
      ⊎ (may_in t user Write (object.Window window) ≡ true)

-- the holder of a lock held it before, or takes it in this step
abbrev pub LocksAreTakenBy : Tables → Entry → Type 0
LocksAreTakenBy t e =
    (window : ℕ) (user : UserId) → holder_in (after t e) window ≡ Some user →
    (holder_in t window ≡ Some user) ⊎ TakesIt t e window user

abbrev pub LocksAreTaken : Type 0
LocksAreTaken = (t : Tables) (e : Entry) → IsStep t e → LocksAreTakenBy t e

-- ---- who keeps a lock

-- commands that may free other users' locks, besides those that change rights
abbrev pub may_free : Order → Bool
may_free command.Kill = true
may_free command.Quit = true
may_free (command.Multiuser false) = true
may_free order = false

pub record MayFree (t : Tables) (g : Given) : Type 0 where
  pub frees : may_free g.order ≡ true
  pub granted : has_x t g ≡ true

-- a user who has neither w on the window nor x on a command that changes rights
pub record IsPowerless (t : Tables) (user : UserId) (window : ℕ) : Type 0 where
  pub write : may_in t user Write (object.Window window) ≡ false
  pub lists :
      (c : CommandName) → changes_rights c ≡ true →
      may_in t user Execute (object.Command c) ≡ false

-- in a step of such a user, the holder of a window that had been opened stays, except by a granted
-- kill, quit or `multiuser off`
abbrev pub HoldersStayIn : Tables → Entry → Type 0
HoldersStayIn t e =
    (window : ℕ) (user holder : UserId) → user_of t e.event ≡ Some user →
    IsPowerless t user window → stood t (object.Window window) ≡ true →
    holder_in t window ≡ Some holder →
    (holder_in (after t e) window ≡ Some holder) ⊎ SomeOf (MayFree t) (commands_of t e.event)

abbrev pub HoldersStay : Type 0
HoldersStay =
    (t : Tables) (e : Entry) → AreFit t → HoldersMayWrite t → IsStep t e → HoldersStayIn t e
