-- What a played script prints.
use Rattle.std.specs.Prelude.{ℕ, ◌+◌, Bool, List, [], ◌∷◌, ◌++◌, ◌≡◌, if◌then◌else◌, Option, Some, None, map, length}
use Rattle.std.specs.List.{flat_map}
use Rattle.std.specs.Io.KnownBytes.{Appends}
use Rattle.session_model.specs.Trace.{EventValue, Entry, Trace}
use Rattle.session_model.specs.Tables.{Client, Tables}
use Rattle.session_model.specs.Granted.{granted_view}
use Rattle.session_model.specs.Run.{tables_of}
use Rattle.session.specs.Script.{event_of}
use Rattle.session.specs.Printed.{effect_line, reply_line, view_lines}
use Rattle.session_core.specs.Headline.{with_steps, AllSteps, Keeps, Serves, untaken_keys, last_reply}
use Rattle.session_core.specs.Stands.{StandsFor}
use Rattle.session_core.specs.declared.session.Session.{Session}
use Rattle.session.specs.declared.player.Fault.{Fault}
use Rattle.session.specs.declared.player.Fault.TheVariants.{NotUnderstood}
use Rattle.session.specs.ScriptLines.{lines_of}

-- ---- what is read

-- the lines that aren't empty
abbrev pub filled : List (List ℕ) → List (List ℕ)
filled [] = []
filled ([] ∷ lines) = filled lines
filled ((byte ∷ bytes) ∷ lines) = (byte ∷ bytes) ∷ filled lines

-- each line that isn't empty is an event
abbrev pub AreEventsOf : List (List ℕ) → List EventValue → Type 0
AreEventsOf lines events = map event_of (filled lines) ≡ map Some events

-- the lines give the steps of a session, each of which keeps its promise, from a trace on
pub record Plays (h : Trace) (lines : List (List ℕ)) (steps : List Entry) : Type 0 where
  pub events : List EventValue
  pub understood : AreEventsOf lines events
  pub serves : Serves events steps []
  pub run : AllSteps Keeps h steps

-- a line that is no event
abbrev pub IsBad : List ℕ → Type 0
IsBad line = map event_of (filled (line ∷ [])) ≡ None ∷ []

-- ---- what is printed

-- a step's effects, and after the last step of an event its reply
abbrev pub step_lines : Entry → List ℕ
step_lines e =
    flat_map effect_line e.effects
    ++ flat_map (reply_line e.event) (last_reply (untaken_keys e.event e.reply) e.reply)

abbrev pub printed : List Entry → List ℕ
printed steps = flat_map step_lines steps

-- what a client is to see
abbrev pub client_lines : Tables → Client → List ℕ
client_lines t c = view_lines c.serial (granted_view t c)

-- all clients, by rising serials
abbrev pub views : Tables → List ℕ
views t = flat_map (client_lines t) t.clients

-- the views, if they are asked for
abbrev pub views_if : Bool → Tables → List ℕ
views_if shows t = if shows then views t else []

-- ---- a whole script

-- all lines were events: their steps were printed, and after them what each client is to see
pub record PlaysAll (start : Trace) (shows : Bool) (script : List ℕ)
    (before after : Option (List ℕ)) : Type 0 where
  pub steps : List Entry
  pub plays : Plays start (lines_of script) steps
  pub prints : Appends before after
      (printed steps ++ views_if shows (tables_of (with_steps start steps)))

-- the line of this number, counted from 1, was the first that is no event: the steps of those
-- before it were printed
pub record PlaysUntil (number : ℕ) (h : Trace) (script : List ℕ)
    (before after : Option (List ℕ)) : Type 0 where
  pub past : List (List ℕ)
  pub line : List ℕ
  pub behind : List (List ℕ)
  pub lines : lines_of script ≡ past ++ line ∷ behind
  pub number_is : number ≡ length past + 1
  pub bad : IsBad line
  pub steps : List Entry
  pub plays : Plays h past steps
  pub prints : Appends before after (printed steps)

-- if a line wasn't understood, a fact of its number
abbrev pub IfNotUnderstood : Fault → (ℕ → Type 0) → Type 0
IfNotUnderstood (NotUnderstood number) P = P number
IfNotUnderstood _ P = Unit {0}

-- a fact of a script and of each trace that the session stood for
abbrev pub OfScript : Option (List ℕ) → Session → (Trace → List ℕ → Type 0) → Type 0
OfScript read old P =
    (script : List ℕ) → read ≡ Some script → (h : Trace) → StandsFor h old → P h script

-- ---- on the way

-- an event was run and printed, and the session stands for the trace with its steps
pub record Runs (h : Trace) (event : EventValue) (new : Session)
    (before after : Option (List ℕ)) : Type 0 where
  pub steps : List Entry
  pub serves : Serves (event ∷ []) steps []
  pub run : AllSteps Keeps h steps
  pub stands : StandsFor (with_steps h steps) new
  pub prints : Appends before after (printed steps)

-- lines were played and printed, and the session stands for the trace with their steps
pub record Played (h : Trace) (lines : List (List ℕ)) (new : Session)
    (before after : Option (List ℕ)) : Type 0 where
  pub steps : List Entry
  pub plays : Plays h lines steps
  pub stands : StandsFor (with_steps h steps) new
  pub prints : Appends before after (printed steps)

-- some lines of a script were played, and the others are left
pub record PlayedPart (h : Trace) (script : List ℕ) (count : ℕ) (left : Option (List ℕ))
    (new : Session) (before after : Option (List ℕ)) : Type 0 where
  pub past : List (List ℕ)
  pub rest : List ℕ
  pub lines : lines_of script ≡ past ++ lines_of rest
  pub count_is : count ≡ length past
  pub left_is : left ≡ Some rest
  pub played : Played h past new before after
