-- What a run of a session shows.
use Rattle.std.specs.Prelude.{ℕ, List, [], ◌∷◌, ◌++◌, ◌≡◌, ◌⊎◌, ◌≤◌, None, Result}
use Rattle.std.specs.Prelude.{Ok, Err, if◌then◌else◌, nat_lt, drop, length, map, MatchOption}
use Rattle.acl.specs.declared.leaders.Edition.{Edition}
use Rattle.acl.specs.declared.user_id.UserId.{UserId}
use Rattle.terminal_model.specs.Shows.{View}
use Rattle.session_model.specs.declared.event.Effect.{Effect}
use Rattle.session_model.specs.declared.event.Event.{Event}
use Rattle.session_model.specs.declared.event.Ran.{Ran}
use Rattle.session_model.specs.declared.refusal.Refusal.{Refusal}
use Rattle.session_model.specs.declared.refusal.Refusal.TheVariants.{NoWindow, NoMemory}
use Rattle.session_model.specs.Trace.{EventValue, Keys, Reply, Entry, Trace, with_step, begun, happening}
use Rattle.session_model.specs.Tables.{client_at}
use Rattle.session_model.specs.Granted.{granted_view}
use Rattle.session_model.specs.Run.{tables_of}
use Rattle.session_model.specs.Keeps.{KeepsPromise}
use Rattle.session_core.specs.declared.session.Taken.{Taken}
use Rattle.session_core.specs.declared.session.Taken.TheVariants.{Whole, Part}
use Rattle.session_core.specs.declared.session.Session.{Session}
use Rattle.session_core.specs.Stands.{StandsFor}

-- ---- steps of a call

-- the trace after these steps, the first of them first
abbrev pub with_steps : Trace → List Entry → Trace
with_steps h [] = h
with_steps h (e ∷ steps) = with_steps (with_step h e) steps

-- a fact of each step and of the trace before it
abbrev pub AllSteps : (Trace → Entry → Type 0) → Trace → List Entry → Type 0
AllSteps P h [] = Unit {0}
AllSteps P h (e ∷ steps) = P h e × AllSteps P (with_step h e) steps

-- a step of the session, which keeps its promise
abbrev pub Keeps : Trace → Entry → Type 0
Keeps h e = KeepsPromise (tables_of h) e

-- what is left of an event after a step: the keys that it didn't read
abbrev pub untaken_keys : EventValue → Reply → List EventValue
untaken_keys (Keys client bytes) (Ok done) =
    if nat_lt done.taken (length bytes) then Keys client (drop done.taken bytes) ∷ [] else []
untaken_keys _ _ = []

-- how many bytes of keys a step read
abbrev pub read_by : Reply → ℕ
read_by (Ok done) = done.taken
read_by (Err r) = 0

-- the steps take these events one after another, each with what was left of it before the next one,
-- and leave those
abbrev pub Serves : List EventValue → List Entry → List EventValue → Type 0
Serves events [] left = left ≡ events
Serves [] (e ∷ steps) left = ⊥
Serves (event ∷ events) (e ∷ steps) left =
    (e.event ≡ event) × Serves (untaken_keys e.event e.reply ++ events) steps left

-- an event's reply is that of its last step
abbrev pub last_reply : List EventValue → Reply → List Reply
last_reply [] reply = reply ∷ []
last_reply (event ∷ events) reply = []

abbrev pub replies_of : List Entry → List Reply
replies_of [] = []
replies_of (e ∷ steps) = last_reply (untaken_keys e.event e.reply) e.reply ++ replies_of steps

abbrev pub effects_of : List Entry → List Effect
effects_of [] = []
effects_of (e ∷ steps) = e.effects ++ effects_of steps

-- events whose first has lost its first keys
abbrev pub without_keys : ℕ → List EventValue → List EventValue
without_keys part [] = []
without_keys part (Keys client bytes ∷ events) = Keys client (drop part bytes) ∷ events
without_keys part (event ∷ events) = event ∷ events

-- what a run that came this far leaves of the events
abbrev pub untaken_events : Ran → List EventValue → List EventValue
untaken_events ran events = without_keys ran.part (drop ran.taken events)

-- this many bytes are a part of the first of some events: of keys no more than there are, of other
-- events none
abbrev pub IsPart : ℕ → List EventValue → Type 0
IsPart part (Keys client bytes ∷ events) = part ≤ length bytes
IsPart part _ = part ≡ 0

-- a run came this far in these events: it stopped exactly if it left one
pub record HasCome (ran : Ran) (events : List EventValue) : Type 0 where
  pub within : ran.taken ≤ length events
  pub part : IsPart ran.part (drop ran.taken events)
  pub stopped : ran.stopped ≡ nat_lt ran.taken (length events)

-- what a call was given and gave: events, the effects and replies before it and after it, and the
-- events that it left
pub record Call : Type 0 where
  pub events : List EventValue
  pub effects : List Effect
  pub more_effects : List Effect
  pub replies : List Reply
  pub more_replies : List Reply
  pub left : List EventValue

-- these steps are the call
pub record AreSteps (call : Call) (steps : List Entry) : Type 0 where
  pub events : Serves call.events steps call.left
  pub effects : call.more_effects ≡ call.effects ++ effects_of steps
  pub replies : call.more_replies ≡ call.replies ++ replies_of steps

-- for each trace that the session stood for, the call was some steps for which the fact holds, and
-- the session stands for the trace with them
abbrev pub SomeRun : Session → Call → Session → (Trace → List Entry → Type 0) → Type 0
SomeRun old call new P = (h : Trace) → StandsFor h old →
    (steps : List Entry) × AreSteps call steps × StandsFor (with_steps h steps) new × P h steps

abbrev pub SomeSteps : Session → Call → Session → Type 0
SomeSteps old call new = SomeRun old call new (λ h steps. Unit {0})

-- a new session of this owner took the steps of the call, each of which keeps the promise, and
-- stands for them
abbrev pub IsRunOf : Edition → UserId → Call → Session → Type 0
IsRunOf edition owner call new =
    (steps : List Entry) × AreSteps call steps
    × StandsFor (with_steps (begun edition owner) steps) new
    × AllSteps Keeps (begun edition owner) steps

-- a call of `run`
abbrev pub run_call :
    List Event → List Effect → List Effect → List Reply → List Reply → Ran → Call
run_call events effects more_effects replies more_replies ran = record {
  events = map happening events;
  effects = effects;
  more_effects = more_effects;
  replies = replies;
  more_replies = more_replies;
  left = untaken_events ran (map happening events);
}

-- what was taken of one event
abbrev pub untaken_by : EventValue → Taken → List EventValue
untaken_by event (Whole reply) = []
untaken_by event (Part part) = without_keys part (event ∷ [])

abbrev pub replies_by_taken : Taken → List Reply
replies_by_taken (Whole reply) = reply ∷ []
replies_by_taken (Part part) = []

abbrev pub take_call : EventValue → List Effect → List Effect → Taken → Call
take_call event effects more_effects taken = record {
  events = event ∷ [];
  effects = effects;
  more_effects = more_effects;
  replies = [];
  more_replies = replies_by_taken taken;
  left = untaken_by event taken;
}

-- no more of it than there is
abbrev pub IsPartOf : EventValue → Taken → Type 0
IsPartOf event (Whole reply) = Unit {0}
IsPartOf event (Part part) = IsPart part (event ∷ [])

-- ---- views

-- a client's granted view, or why there is none
abbrev pub IsViewOf : Trace → ℕ → Result View Refusal → Type 0
IsViewOf h client (Ok v) =
    MatchOption (client_at (tables_of h) client) ⊥ (λ c. v ≡ granted_view (tables_of h) c)
IsViewOf h client (Err r) =
    (r ≡ NoMemory) ⊎ ((r ≡ NoWindow) × (client_at (tables_of h) client ≡ None))
