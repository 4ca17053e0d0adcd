-- What the laws of guests say of a call of a session.
use Rattle.std.specs.Prelude.{◌≡◌, Bool, List, Some}
use Rattle.acl.specs.declared.user_id.UserId.{UserId}
use Rattle.acl.specs.declared.leaders.Edition.{Edition}
use Rattle.session_model.specs.Trace.{Entry, Trace, begun}
use Rattle.session_model.specs.Run.{after, tables_of}
use Rattle.session_laws.specs.Changing.{RightsAreGated}
use Rattle.session_laws.specs.Contained.{AreGuests, ChangesAreTheirs, AreContained}
use Rattle.session_laws.specs.Gates.{ModeIsGated, ClientsStayIn}
use Rattle.session_laws.specs.Locking.{user_of, HoldersMayWrite, LocksAreTakenBy, HoldersStayIn}
use Rattle.session_laws.specs.Naming.{WindowsStayIn}
use Rattle.session_laws.specs.Opening.{IsGivenByMasks}
use Rattle.session_laws.specs.Watching.{IsSpectator, LeavesOthers}
use Rattle.session_core.specs.Headline.{AllSteps, Keeps, Call, SomeRun, IsRunOf, AreSteps, with_steps}
use Rattle.session_core.specs.Stands.{StandsFor}
use Rattle.session_core.specs.declared.session.Session.{Session}

-- A step changes rights only by a granted command on the lists. A new window's rights are given by its
-- opener's masks. A user who holds a lock may write there, took it in a step of their own, and keeps it
-- in steps of users who may neither write there nor change rights. The mode, others' clients, and
-- windows with their numbers and titles change only by granted commands. A step of a user who only
-- watches leaves others all that they have.
pub record IsGuarded (h : Trace) (e : Entry) : Type 0 where
  pub rights : RightsAreGated (tables_of h) e
  pub windows : IsGivenByMasks (tables_of h) e e.event e.reply
  pub holders : HoldersMayWrite (after (tables_of h) e)
  pub locks : LocksAreTakenBy (tables_of h) e
  pub mode : ModeIsGated (tables_of h) e
  pub clients : ClientsStayIn (tables_of h) e
  pub stay : HoldersStayIn (tables_of h) e
  pub names : WindowsStayIn (tables_of h) e
  pub watching :
      (user : UserId) → user_of (tables_of h) e.event ≡ Some user →
      IsSpectator (tables_of h) user → LeavesOthers (tables_of h) e user

-- if nobody else changes rights in the call, users who may not change them before it may not after it
abbrev pub AreContainedBy : Trace → List Entry → Type 0
AreContainedBy h steps =
    (guests : UserId → Bool) → AreGuests (tables_of h) guests →
    AllSteps (λ g e. ChangesAreTheirs guests (tables_of g) e) h steps →
    AreContained (tables_of h) (tables_of (with_steps h steps)) guests

pub record GuestsAreHeld (h : Trace) (steps : List Entry) : Type 0 where
  pub guarded : AllSteps IsGuarded h steps
  pub contained : AreContainedBy h steps

-- what `run` promises of a call says this too
abbrev pub CallsAreGuarded : Type 0
CallsAreGuarded =
    (old : Session) (call : Call) (new : Session) → SomeRun old call new (AllSteps Keeps) →
    SomeRun old call new GuestsAreHeld

-- the run of a new session promises this too
abbrev pub NewRunsAreGuarded : Type 0
NewRunsAreGuarded =
    (edition : Edition) (owner : UserId) (call : Call) (new : Session) →
    IsRunOf edition owner call new →
    (steps : List Entry) × AreSteps call steps
    × StandsFor (with_steps (begun edition owner) steps) new
    × GuestsAreHeld (begun edition owner) steps
