-- What holds of every step and of every run of a session.
use Rattle.std.specs.Prelude.{◌≡◌, ◌≤◌, ℕ, true, List, [], ◌∷◌, ◌++◌, length, Result, Ok, Err}
use Rattle.std.specs.Prelude.{Option, Some, None, if◌then◌else◌}
use Rattle.std.specs.List.{AllByRecursion}
use Rattle.acl.specs.declared.user_id.UserId.{UserId}
use Rattle.session_model.specs.declared.event.Effect.{Effect}
use Rattle.session_model.specs.declared.event.Effect.TheVariants.{Say}
use Rattle.session_model.specs.declared.event.Done.{Done}
use Rattle.session_model.specs.declared.refusal.Refusal.{Refusal}
use Rattle.session_model.specs.declared.refusal.Refusal.TheVariants.{UnknownUser, Line}
use Rattle.session_model.specs.Trace.{EventValue, Command, Reply, Entry, Trace}
use Rattle.session_model.specs.Tables.{Tables, is_known}
use Rattle.session_model.specs.Lines.{read_line, line_caller}
use Rattle.session_model.specs.Deeds.{Deed}
use Rattle.session_model.specs.Commands.{does, ruling}
use Rattle.session_model.specs.Outcomes.{left_acts}
use Rattle.session_model.specs.Given.{Given, commands_of, has_x}
use Rattle.session_model.specs.Promises.{SomeOf}
use Rattle.session_model.specs.Run.{IsStep, IsRun, after, tables_of}
use Rattle.session_model.specs.Keeps.{KeepsPromise, KeepsPromises}
use Rattle.session_model.specs.Sound.{AreSound, ActsAgree}
use Rattle.acl.specs.History.{followed_by}

-- each step keeps the promise, for any tables
abbrev pub StepsKeepPromise : Type 0
StepsKeepPromise = (t : Tables) (e : Entry) → IsStep t e → KeepsPromise t e

-- each step of each run keeps the promise
abbrev pub RunsKeepPromise : Type 0
RunsKeepPromise = (h : Trace) → IsRun h → KeepsPromises h

-- serials rise and are never given again, window numbers differ, and there are no more windows and
-- clients than allowed
abbrev pub TablesStaySound : Type 0
TablesStaySound = (t : Tables) (e : Entry) → AreSound t → AreSound (after t e)

abbrev pub RunsAreSound : Type 0
RunsAreSound = (h : Trace) → AreSound (tables_of h)

-- a step has at most 256 effects
abbrev pub StepsAreFew : Type 0
StepsAreFew = (t : Tables) (e : Entry) → AreSound t → IsStep t e → length e.effects ≤ 256

-- this effect, if it says something, isn't among the effects after it
abbrev pub IsSaidOnce : Effect → List Effect → Type 0
IsSaidOnce (Say client said) later = AllByRecursion (λ f. f ≡ Say client said → ⊥) later
IsSaidOnce f later = Unit {0}

abbrev pub AreSaidOnce : List Effect → Type 0
AreSaidOnce [] = Unit {0}
AreSaidOnce (f ∷ effects) = IsSaidOnce f effects × AreSaidOnce effects

-- no client is told the same text twice in a step
abbrev pub StepsSayOnce : Type 0
StepsSayOnce = (t : Tables) (e : Entry) → AreSound t → IsStep t e → AreSaidOnce e.effects

-- the acts in the tables are the acts of all entries
abbrev pub ActsAreNoted : Type 0
ActsAreNoted = (t : Tables) (e : Entry) → IsStep t e → (after t e).acts ≡ followed_by t.acts e.acts

-- the acts agree with the windows and clients of the tables
abbrev pub ActsStayAgreed : Type 0
ActsStayAgreed = (t : Tables) (e : Entry) → AreSound t → ActsAgree t → ActsAgree (after t e)

abbrev pub RunsAgree : Type 0
RunsAgree = (h : Trace) → ActsAgree (tables_of h)

-- a command line did its row: its acts, followed by those of users who left windows; its effects;
-- its list; and its tables
pub record DidItsRow (t : Tables) (e : Entry) (done : Done) (g : Given) : Type 0 where
  pub granted : has_x t g ≡ true
  pub deed : Deed
  pub does_it : does t g.caller g.order ≡ Ok deed
  pub acts : e.acts ≡ deed.acts ++ left_acts t.clients deed.tables.clients
  pub effects : e.effects ≡ deed.effects
  pub lists : done.text ≡ deed.lists
  pub tables : after t e ≡ record deed.tables { acts = followed_by t.acts e.acts }

abbrev pub LineDidItsRow : Tables → Entry → EventValue → Reply → Type 0
LineDidItsRow t e (Command user number line) (Ok done) =
    SomeOf (DidItsRow t e done) (commands_of t (Command user number line))
LineDidItsRow t e _ _ = Unit {0}

-- a Command event that isn't refused is granted, and did its row
abbrev pub CommandsDoTheirRows : Type 0
CommandsDoTheirRows = (t : Tables) (e : Entry) → IsStep t e → LineDidItsRow t e e.event e.reply

-- the refusal, if there is one
abbrev pub refusal_in : {X : Type 0} → Result X Refusal → Option Refusal
refusal_in (Ok x) = None
refusal_in (Err r) = Some r

-- why a Command event is refused: its user isn't known, its line is no command, or its command's
-- row refuses it
abbrev pub why_refused : Tables → UserId → Option ℕ → List ℕ → Option Refusal
why_refused t user number line =
    if is_known t user then elim (read_line line) [
      | Err f ↦ Some (Line f)
      | Ok order ↦ refusal_in (ruling t (line_caller t user number) order).answer
    ] else Some UnknownUser

abbrev pub IsRefusedSo : Tables → Entry → EventValue → Type 0
IsRefusedSo t e (Command user number line) =
    refusal_in e.reply ≡ why_refused t user number line
IsRefusedSo t e event = Unit {0}

-- a Command event is refused exactly for these reasons
abbrev pub CommandsAreRefusedSo : Type 0
CommandsAreRefusedSo = (t : Tables) (e : Entry) → IsStep t e → IsRefusedSo t e e.event
