-- What users don't get on windows that open later.
use Rattle.std.specs.Prelude.{◌≡◌, ℕ, Bool, true, false, not, ◌&&◌, List, ◌∷◌}
use Rattle.std.specs.List.{AllByRecursion}
use Rattle.acl.specs.declared.user_id.UserId.{UserId}
use Rattle.acl.specs.declared.bits.Bit.{Bit}
use Rattle.acl.specs.declared.bits.Bit.TheVariants.{Execute}
use Rattle.acl.specs.declared.command_name.CommandName.TheVariants as name
use Rattle.acl.specs.declared.act.Object.TheVariants as object
use Rattle.acl.specs.History.{mask}
use Rattle.session_model.specs.Trace.{Entry}
use Rattle.session_model.specs.Tables.{Tables, is_known}
use Rattle.session_model.specs.Rights.{may_in, leaders_in}
use Rattle.session_model.specs.Given.{Given, commands_of}
use Rattle.session_model.specs.Run.{IsStep, IsRunFrom, after, tables_from}
use Rattle.session_laws.specs.Changing.{MayChangeRights}
use Rattle.session_laws.specs.Contained.{AllSteps, AreGuests, stood, AreContained}

-- the users who may open windows: each known user who has x on screen; the owner always has
abbrev pub may_open : Tables → UserId → Bool
may_open t user = is_known t user && may_in t user Execute (object.Command name.Screen)

-- the users whose entries count for a user: the user and the leaders
abbrev pub circle : Tables → UserId → List UserId
circle t user = user ∷ leaders_in t user

-- These users and their leaders are known; none of them may open windows; and every user who may
-- open windows masks the bit for each of them.
pub record AreShutOut (t : Tables) (users : UserId → Bool) (bit : Bit) : Type 0 where
  pub known :
      (user : UserId) → users user ≡ true →
      AllByRecursion (λ u. is_known t u ≡ true) (circle t user)
  pub openers :
      (user : UserId) → users user ≡ true →
      AllByRecursion (λ u. may_open t u ≡ false) (circle t user)
  pub masks :
      (opener user : UserId) → may_open t opener ≡ true → users user ≡ true →
      AllByRecursion (λ u. mask t.acts opener u bit ≡ false) (circle t user)

-- only these users are granted a command that changes rights
abbrev pub GrantsAreTheirs : (UserId → Bool) → Tables → Entry → Type 0
GrantsAreTheirs users t e =
    AllByRecursion (λ (g : Given). MayChangeRights t g → users g.caller.user ≡ true)
    (commands_of t e.event)

-- a window that was opened between two moments
abbrev pub came : Tables → Tables → ℕ → Bool
came t u window = not (stood t (object.Window window)) && stood u (object.Window window)

-- At a later moment: on each window that was opened since, none of these users has the bit; on what
-- was there before, everyone's rights are unchanged; and the premises still hold.
pub record AreConfined (t u : Tables) (users : UserId → Bool) (bit : Bit) : Type 0 where
  pub windows :
      (user : UserId) (window : ℕ) → users user ≡ true → came t u window ≡ true →
      may_in u user bit (object.Window window) ≡ false
  pub contained : AreContained t u users
  pub as_before : AreShutOut u users bit

-- one step confines these users
abbrev pub StepsConfine : Type 0
StepsConfine =
    (t : Tables) (e : Entry) (users : UserId → Bool) (bit : Bit) → AreGuests t users →
    AreShutOut t users bit → IsStep t e → GrantsAreTheirs users t e →
    AreConfined t (after t e) users bit

-- every run confines these users
abbrev pub GuestsAreConfined : Type 0
GuestsAreConfined =
    (start : Tables) (later : List Entry) (users : UserId → Bool) (bit : Bit) →
    AreGuests start users → AreShutOut start users bit → IsRunFrom start later →
    AllSteps (GrantsAreTheirs users) start later →
    AreConfined start (tables_from start later) users bit

-- Without masks: users who have x on no command that changes rights are contained as long as nobody
-- else is granted one, even if others give such commands and are refused.
abbrev pub GuestsStayContained : Type 0
GuestsStayContained =
    (start : Tables) (later : List Entry) (guests : UserId → Bool) → AreGuests start guests →
    IsRunFrom start later → AllSteps (GrantsAreTheirs guests) start later →
    AreContained start (tables_from start later) guests
