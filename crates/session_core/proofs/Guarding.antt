-- The steps of a call, and of a new session's run, obey the laws of guests.
use Rattle.session_core.proofs.Vocabulary.{◌≡◌, Bool, List, [], ◌∷◌, refl, ap, sym, subst, UserId, Entry, Trace}
use Rattle.session_core.proofs.Vocabulary.{with_step, begun, Tables, IsStep, IsRun, IsRunFrom, after, tables_of}
use Rattle.session_core.proofs.Vocabulary.{AllSteps, Keeps, with_steps, Call, SomeRun, AreSteps, StandsFor, Session}
use Rattle.acl.specs.declared.leaders.Edition.{Edition}
use Rattle.session_model.specs.Run.{tables_from}
use Rattle.session_laws.specs.Fit.{RunsAreFit}
use Rattle.session_laws.specs.Changing.{RightsGate}
use Rattle.session_laws.specs.Contained as contained
use Rattle.session_laws.specs.Contained.{AreGuests, ChangesAreTheirs, AreContained, GuestsAreContained}
use Rattle.session_laws.specs.Gates.{ModeGate, ClientsStay}
use Rattle.session_laws.specs.Locking.{StepsKeepHolders, RunsHaveHolders, LocksAreTaken, HoldersStay}
use Rattle.session_laws.specs.Naming.{WindowsStay}
use Rattle.session_laws.specs.Opening.{NewWindowsAreMasked}
use Rattle.session_laws.specs.Watching.{SpectatorsLeaveOthers}
use Rattle.session_core.specs.Guarded.{IsGuarded, GuestsAreHeld}
use Rattle.session_core.specs.Headline.{IsRunOf}

pub record Laws : Type 0 where
  pub gate : RightsGate
  pub contain : GuestsAreContained
  pub masks : NewWindowsAreMasked
  pub hold : StepsKeepHolders
  pub runs_hold : RunsHaveHolders
  pub taken : LocksAreTaken
  pub mode : ModeGate
  pub clients : ClientsStay
  pub stay : HoldersStay
  pub names : WindowsStay
  pub fit : RunsAreFit
  pub watching : SpectatorsLeaveOthers

guarded_step : Laws → (h : Trace) (e : Entry) → IsRun h → IsStep (tables_of h) e → IsGuarded h e
guarded_step laws h e run step = record {
  rights = laws.gate (tables_of h) e step;
  windows = laws.masks (tables_of h) e step;
  holders = laws.hold (tables_of h) e step (laws.runs_hold h run);
  locks = laws.taken (tables_of h) e step;
  mode = laws.mode (tables_of h) e step;
  clients = laws.clients (tables_of h) e (laws.fit h) step;
  stay = laws.stay (tables_of h) e (laws.fit h) (laws.runs_hold h run) step;
  names = laws.names (tables_of h) e (laws.fit h) step;
  watching = λ user by watches. laws.watching (tables_of h) e user (laws.fit h) (laws.runs_hold h run) step by watches;
}

guarded : Laws → (h : Trace) (steps : List Entry) → IsRun h → AllSteps Keeps h steps → AllSteps IsGuarded h steps
guarded laws h [] run keep = tt
guarded laws h (e ∷ steps) run keep =
    (guarded_step laws h e run keep.0.step, guarded laws (with_step h e) steps (run, keep.0.step) keep.1)

-- steps after others that are counted from a start
since : Laws → (start : Tables) (guests : UserId → Bool) → AreGuests start guests
    → (h : Trace) (past steps : List Entry) → tables_of h ≡ tables_from start past → IsRunFrom start past
    → contained.AllSteps (ChangesAreTheirs guests) start past → AllSteps Keeps h steps
    → AllSteps (λ g e. ChangesAreTheirs guests (tables_of g) e) h steps
    → AreContained start (tables_of (with_steps h steps)) guests
since laws start guests are h past [] is run theirs keep more = subst (λ t. AreContained start t guests) (sym is)
    (laws.contain start past guests are run theirs)
since laws start guests are h past (e ∷ steps) is run theirs keep more =
    since laws start guests are (with_step h e) (e ∷ past) steps (ap (λ t. after t e) is)
    (run, subst (λ t. IsStep t e) is keep.0.step) (theirs, subst (λ t. ChangesAreTheirs guests t e) is more.0)
    keep.1 more.1

held : Laws → (h : Trace) (steps : List Entry) → IsRun h → AllSteps Keeps h steps → GuestsAreHeld h steps
held laws h steps run keep = record {
  guarded = guarded laws h steps run keep;
  contained = λ guests are more. since laws (tables_of h) guests are h [] steps refl tt tt keep more;
}

pub calls : Laws → (old : Session) (call : Call) (new : Session) → SomeRun old call new (AllSteps Keeps)
    → SomeRun old call new GuestsAreHeld
calls laws old call new some h stands = let r = some h stands in (r.0, r.1, r.2, held laws h r.0 stands.run r.3)

pub new_runs : Laws → (edition : Edition) (owner : UserId) (call : Call) (new : Session)
    → IsRunOf edition owner call new
    → (steps : List Entry) × AreSteps call steps × StandsFor (with_steps (begun edition owner) steps) new
    × GuestsAreHeld (begun edition owner) steps
new_runs laws edition owner call new r = (r.0, r.1, r.2, held laws (begun edition owner) r.0 tt r.3)
