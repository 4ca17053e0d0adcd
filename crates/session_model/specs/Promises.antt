-- What a step of a session promises, by the tables before it and after it.
use Rattle.std.specs.Prelude.{ℕ, ◌==◌, Bool, true, false, ◌&&◌, List, [], ◌∷◌, ◌++◌, ◌≡◌, ◌⊎◌, Option, Some, None, Ok}
use Rattle.std.specs.Prelude.{Err, if◌then◌else◌, MatchOption, map, codes, is_ok, not}
use Rattle.std.specs.List.{AllByRecursion, flat_map}
use Rattle.std.specs.Option.{option_map_or}
use Rattle.acl.specs.declared.user_id.UserId.{UserId}
use Rattle.acl.specs.declared.bits.Bit.TheVariants.{Read, Write, Execute}
use Rattle.acl.specs.declared.act.Object.TheVariants as object
use Rattle.acl.specs.Names.{name_of, named_by}
use Rattle.acl.specs.Same.{same_user}
use Rattle.writelock.specs.LockTable.{stops_nobody_but}
use Rattle.command_lang.specs.declared.command.Command.{Command as Order}
use Rattle.command_lang.specs.declared.command.Command.TheVariants as command
use Rattle.terminal_model.specs.Reading.{reads}
use Rattle.terminal_model.specs.Shows.{ShowsFromAny}
use Rattle.session_model.specs.declared.event.Effect.{Effect}
use Rattle.session_model.specs.declared.event.Effect.TheVariants.{Input, Deliver, Say, Size, Gone}
use Rattle.session_model.specs.declared.event.Peer.TheVariants as peer
use Rattle.session_model.specs.declared.event.Reason.TheVariants as reason
use Rattle.session_model.specs.declared.event.StatusMessage.TheVariants as message
use Rattle.session_model.specs.declared.refusal.Refusal.{Refusal}
use Rattle.session_model.specs.declared.refusal.Refusal.TheVariants.{EntryDenied, NoWindow}
use Rattle.session_model.specs.Trace.{EventValue, Detach, Keys, Command, Output, Closed, Draw, Reply, Entry}
use Rattle.session_model.specs.Tables.{Window, Client, Tables, window_at, client_at, focused_window}
use Rattle.session_model.specs.Rights.{may_in, holder_in}
use Rattle.session_model.specs.Denials.{entry_denial, lock_denial}
use Rattle.session_model.specs.Texts.{text_of}
use Rattle.session_model.specs.Given.{Given, commands_of, has_x, Typed, all_typed}
use Rattle.session_model.specs.Terminals.{terminal_of}
use Rattle.session_model.specs.Granted.{granted_view}
use Rattle.session_model.specs.Framed.{IsFrame}
use Rattle.session_model.specs.Run.{deliveries}

-- one element of the list at least
abbrev pub SomeOf : {X : Type 0} → (X → Type 0) → List X → Type 0
SomeOf P [] = ⊥
SomeOf P (x ∷ xs) = P x ⊎ SomeOf P xs

-- ---- typed bytes

-- the bytes that reach the window: all of them if their user may write there and no other user
-- holds its lock, by the acts before them; else none
abbrev pub reaching_in : Tables → UserId → ℕ → List ℕ → List ℕ
reaching_in t user w bytes =
    if may_in t user Write (object.Window w) && stops_nobody_but user (holder_in t w)
    then bytes else []

abbrev pub reaching : Tables → ℕ → Typed → List ℕ
reaching t window typed = elim typed.window [
  | None ↦ []
  | Some w ↦ if w.serial == window then reaching_in t typed.user w.serial typed.bytes else []
]

-- the bytes that a window's own terminal answers to the window's output
abbrev pub reporting : Tables → EventValue → ℕ → List ℕ
reporting t (Output at bytes) window =
    if at == window
    then option_map_or (λ w. (reads (terminal_of w) bytes).reports) (window_at t at) [] else []
reporting t _ window = []

abbrev pub inputs : List Effect → ℕ → List ℕ
inputs [] window = []
inputs (Input at bytes ∷ effects) window =
    (if at == window then bytes else []) ++ inputs effects window
inputs (_ ∷ effects) window = inputs effects window

-- TYPED BYTES: what is put into each window is exactly the typed bytes that reach it, in order, and
-- its own terminal's reports
abbrev pub TypedBytesReach : Tables → Entry → Type 0
TypedBytesReach t e = (window : ℕ) →
    inputs e.effects window
    ≡ flat_map (reaching t window) (all_typed t e.event) ++ reporting t e.event window

-- why a user's bytes don't reach a window, if they don't
abbrev pub why_not_into : Tables → UserId → ℕ → Option Refusal
why_not_into t user w =
    if may_in t user Write (object.Window w)
    then (if stops_nobody_but user (holder_in t w) then None
    else Some (lock_denial t w (holder_in t w)))
    else Some (entry_denial t user Write (object.Window w))

abbrev pub why_not : Tables → Typed → Option Refusal
why_not t typed = elim typed.window [
  | None ↦ Some NoWindow
  | Some w ↦ why_not_into t typed.user w.serial
]

-- a refusal is told: for keys by a message, for a Command event by its reply
abbrev pub IsToldOf : Entry → EventValue → Refusal → Type 0
IsToldOf e (Keys client bytes) r = SomeOf (λ f. f ≡ Say client (text_of r)) e.effects
IsToldOf e (Command user number bytes) r = e.reply ≡ Err r
IsToldOf e _ r = ⊥

abbrev pub IsTold : Entry → List ℕ → Option Refusal → Type 0
IsTold e [] why = Unit {0}
IsTold e (b ∷ bytes) None = Unit {0}
IsTold e (b ∷ bytes) (Some r) = IsToldOf e e.event r

-- TOLD: if typed bytes don't reach their window, it is told why
abbrev pub DenialIsTold : Tables → Entry → Type 0
DenialIsTold t e =
    AllByRecursion (λ typed. IsTold e typed.bytes (why_not t typed)) (all_typed t e.event)

-- ---- commands

-- whether a refusal is because x is missing
abbrev pub wants_x : Refusal → Bool
wants_x (EntryDenied d) = elim d.bit [ Read ↦ false | Write ↦ false | Execute ↦ true ]
wants_x _ = false

abbrev pub reply_wants_x : Reply → Bool
reply_wants_x (Err r) = wants_x r
reply_wants_x (Ok done) = false

-- the client without its keys and its message
abbrev pub unread : Client → Client
unread c = record c { keys = []; message = message.Silence }

-- the tables are the same, except that keys were read, by which messages end and come
pub record OnlyRead (t u : Tables) : Type 0 where
  pub owner : u.owner ≡ t.owner
  pub edition : u.edition ≡ t.edition
  pub acts : u.acts ≡ t.acts
  pub multiuser : u.is_multiuser ≡ t.is_multiuser
  pub windows : u.windows ≡ t.windows
  pub clients : map unread u.clients ≡ map unread t.clients
  pub next_window : u.next_window ≡ t.next_window
  pub next_client : u.next_client ≡ t.next_client

-- whether a step may have this effect for a command that it refuses: it types what reaches the
-- window, and tells the client that gave the keys
abbrev pub is_answer_to : EventValue → Effect → Bool
is_answer_to (Keys client bytes) (Input window typed) = true
is_answer_to (Keys client bytes) (Say to said) = to == client
is_answer_to _ _ = false

-- a command acts only if x is granted on the command and on its window; if x is granted, it isn't
-- refused for a missing x
pub record ActsAsGranted (t : Tables) (e : Entry) (u : Tables) (g : Given) : Type 0 where
  pub granted : has_x t g ≡ true → reply_wants_x e.reply ≡ false
  pub acts : has_x t g ≡ false → e.acts ≡ []
  pub tables : has_x t g ≡ false → OnlyRead t u
  pub effects : has_x t g ≡ false → AllByRecursion (λ f. is_answer_to e.event f ≡ true) e.effects

-- COMMANDS: each command acts as it is granted
abbrev pub CommandsAct : Tables → Entry → Tables → Type 0
CommandsAct t e u = AllByRecursion (ActsAsGranted t e u) (commands_of t e.event)

-- REFUSALS: a step that is refused changes nothing
abbrev pub ChangesNothing : Tables → Entry → Tables → Type 0
ChangesNothing t e u = is_ok e.reply ≡ false → (u ≡ t) × (e.acts ≡ []) × (e.effects ≡ [])

-- ---- draws

abbrev pub DrawShowsOf : Tables → Entry → EventValue → Type 0
DrawShowsOf t e (Draw client) = MatchOption (client_at t client) (Unit {0}) (λ c.
    ShowsFromAny (c.delivered ++ deliveries e.effects client) c.rows c.columns (granted_view t c))
DrawShowsOf t e _ = Unit {0}

-- DRAWS: each terminal of the client's size, whatever its state was, shows the client's granted
-- view after it read everything that was delivered since the client attached or last changed its
-- size
abbrev pub DrawShows : Tables → Entry → Type 0
DrawShows t e = DrawShowsOf t e e.event

-- FRAMES: what is delivered to a client is a frame of its granted view, after everything that was
-- delivered to it before
abbrev pub IsFrameTo : Tables → Effect → Type 0
IsFrameTo t (Deliver client bytes) = MatchOption (client_at t client) ⊥ (λ c.
    IsFrame c.rows c.columns c.delivered (granted_view t c) bytes)
IsFrameTo t _ = Unit {0}

abbrev pub DeliversFrames : Tables → Entry → Type 0
DeliversFrames t e = AllByRecursion (IsFrameTo t) e.effects

-- ---- no other effect

-- the window is the one that the command's giver acts on
abbrev pub IsOn : Option Window → ℕ → Type 0
IsOn None window = ⊥
IsOn (Some w) window = w.serial ≡ window

-- the window is open; the client is attached and passes the test
abbrev pub IsOpen : Tables → ℕ → Type 0
IsOpen t window = SomeOf (λ (w : Window). w.serial ≡ window) t.windows

abbrev pub IsClient : Tables → (Client → Bool) → ℕ → Type 0
IsClient t passes client =
    SomeOf (λ (c : Client). (c.serial ≡ client) × (passes c ≡ true)) t.clients

-- whether it is a client of the user whom the word names; and whether it is a client of the owner
abbrev pub is_named : List ℕ → Client → Bool
is_named word c = option_map_or (same_user c.user) (named_by word) false

abbrev pub is_owners : Tables → Client → Bool
is_owners t c = same_user c.user t.owner

-- the effects that a command may have outside the session
abbrev pub IsDoneBy : Tables → Given → Order → Effect → Type 0
IsDoneBy t g (command.Stuff text) (Input window bytes) =
    IsOn g.caller.window window × (bytes ≡ text)
IsDoneBy t g (command.Wall text) (Say client said) =
    IsClient t (λ c. true) client × (said ≡ name_of g.caller.user ++ (codes ": " ++ text))
IsDoneBy t g command.Fit (Size window rows columns) = IsOn g.caller.window window
IsDoneBy t g command.Kill (Gone (peer.Window window) why) =
    IsOn g.caller.window window × (why ≡ reason.Killed)
IsDoneBy t g command.Quit (Gone (peer.Window window) why) = IsOpen t window × (why ≡ reason.Quit)
IsDoneBy t g command.Quit (Gone (peer.Client client) why) =
    IsClient t (λ c. true) client × (why ≡ reason.Quit)
IsDoneBy t g command.Detach (Gone (peer.Client client) why) =
    (g.caller.client ≡ Some client) × (why ≡ reason.Detached)
IsDoneBy t g (command.Acldel word) (Gone (peer.Client client) why) =
    IsClient t (is_named word) client × (why ≡ reason.Removed)
IsDoneBy t g (command.Multiuser false) (Gone (peer.Client client) why) =
    IsClient t (λ c. not (is_owners t c)) client × (why ≡ reason.SingleUser)
IsDoneBy t g _ _ = ⊥

-- the effect is one of a command whose x is granted
abbrev pub IsDoneByRight : Tables → Effect → Given → Type 0
IsDoneByRight t f g = (has_x t g ≡ true) × IsDoneBy t g g.order f

-- the effects that keys may have by themselves: input for the window in focus, and messages to the
-- client of the keys
abbrev pub IsByKeys : Tables → ℕ → Effect → Type 0
IsByKeys t client (Input window typed) =
    MatchOption (client_at t client) ⊥ (λ c. IsOn (focused_window t c) window)
IsByKeys t client (Say to said) = to ≡ client
IsByKeys t client _ = ⊥

abbrev pub IsEffectOf : Tables → EventValue → Effect → Type 0
IsEffectOf t (Keys client bytes) f =
    IsByKeys t client f ⊎ SomeOf (IsDoneByRight t f) (commands_of t (Keys client bytes))
IsEffectOf t (Command user number line) f =
    SomeOf (IsDoneByRight t f) (commands_of t (Command user number line))
IsEffectOf t (Detach client) f = f ≡ Gone (peer.Client client) reason.Detached
IsEffectOf t (Closed window) f = f ≡ Gone (peer.Window window) reason.Detached
IsEffectOf t (Output window bytes) (Input to reports) = to ≡ window
IsEffectOf t (Draw client) (Deliver to bytes) = to ≡ client
IsEffectOf t _ _ = ⊥

-- NO OTHER EFFECT: each effect is one that the event has, or a command that is granted
abbrev pub NoOtherEffect : Tables → Entry → Type 0
NoOtherEffect t e = AllByRecursion (IsEffectOf t e.event) e.effects
