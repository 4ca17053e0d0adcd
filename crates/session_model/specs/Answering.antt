-- What a command line and a client's keys do.
use Rattle.std.specs.Prelude.{ℕ, ◌==◌, Bool, false, not, ◌&&◌, List, [], ◌∷◌, ◌++◌, Option}
use Rattle.std.specs.Prelude.{Some, None, Result, Ok, Err, filter, length}
use Rattle.std.specs.List.{list_any}
use Rattle.std.specs.Option.{option_map_or}
use Rattle.std.specs.Str.{bytes_eq}
use Rattle.command_lang.specs.declared.command.Command.{Command as Order}
use Rattle.command_lang.specs.declared.command.Command.TheVariants as command
use Rattle.command_lang.specs.declared.fault.ParseFault.{ParseFault}
use Rattle.keys.specs.Grammar.{Item, bound, line}
use Rattle.session_model.specs.declared.event.Effect.{Effect}
use Rattle.session_model.specs.declared.event.Effect.TheVariants.{Input, Say}
use Rattle.session_model.specs.declared.event.StatusMessage.{StatusMessage}
use Rattle.session_model.specs.declared.event.StatusMessage.TheVariants as message
use Rattle.session_model.specs.declared.refusal.Refusal.{Refusal}
use Rattle.session_model.specs.declared.refusal.Refusal.TheVariants.{Line}
use Rattle.session_model.specs.declared.refusal.Verdict.{Verdict}
use Rattle.session_model.specs.Tables.{Window, Client, Tables, client_at, with_client, focused_window}
use Rattle.session_model.specs.Texts.{text_of}
use Rattle.session_model.specs.Lines.{read_line, Caller, caller_of}
use Rattle.session_model.specs.Checks.{verdicts, first_fault, typing_checks}
use Rattle.session_model.specs.Deeds.{Deed, Answer, changing, hearing}
use Rattle.session_model.specs.Commands.{Ruling, ruling}
use Rattle.session_model.specs.Keying.{items_behind, typed_bytes, command_item}
use Rattle.session_model.specs.Outcomes.{Outcome, reply_of, finished, refused}

-- ---- commands

abbrev pub line_ruling : Tables → Caller → Result Order ParseFault → Ruling
line_ruling t k (Err f) = record { verdicts = []; answer = Err (Line f) }
line_ruling t k (Ok c) = ruling t k c

abbrev pub answered : Tables → List Verdict → Answer → Outcome
answered t vs (Err r) = refused t vs r
answered t vs (Ok d) = finished t vs (reply_of 0 0 0 d.lists) d

abbrev pub commanded : Tables → Ruling → Outcome
commanded t r = answered t r.verdicts r.answer

-- ---- keys

-- the tables after a client was sent a message
abbrev pub told : Tables → ℕ → StatusMessage → Tables
told t client m = elim (client_at t client) [ None ↦ t | Some c ↦ with_client t (hearing m c) ]

abbrev pub says : Tables → ℕ → StatusMessage → List ℕ → Deed
says t client m bytes =
    record (changing (told t client m)) { effects = Say client bytes ∷ [] }

-- the client that gave the keys is told why it was refused
abbrev pub says_why : Tables → ℕ → Refusal → Deed
says_why t client r = says t client (message.Text (text_of r)) (text_of r)

-- the effect of typed bytes: input for the window in focus
abbrev pub input_in : Option Window → List ℕ → List Effect
input_in focus bytes = option_map_or (λ (w : Window). Input w.serial bytes ∷ []) focus []

-- typed bytes go to the window in focus, or the client is told why not
abbrev pub types : Tables → Client → List ℕ → Deed
types t c [] = changing t
types t c (b ∷ bytes) = elim (first_fault t (typing_checks c.user (focused_window t c))) [
  | Some r ↦ says_why t c.serial r
  | None ↦ record (changing t) { effects = input_in (focused_window t c) (b ∷ bytes) }
]

-- the verdicts of typed bytes: their checks are made once a step, if there are any bytes
abbrev pub typing_verdicts : Tables → Client → List ℕ → List Verdict
typing_verdicts t c [] = []
typing_verdicts t c (b ∷ bytes) = verdicts t (typing_checks c.user (focused_window t c))

-- what a command lists becomes a message of its client; each draw makes lists of windows and of
-- clients again
abbrev pub message_of : Order → List ℕ → StatusMessage
message_of command.Windows bytes = message.AllWindows
message_of command.Displays bytes = message.AllClients
message_of _ bytes = message.Text bytes

abbrev pub with_listed : ℕ → (List ℕ → StatusMessage) → Option (List ℕ) → Deed → Deed
with_listed client as_message None d = d
with_listed client as_message (Some bytes) d =
    let e : Deed = says d.tables client (as_message bytes) bytes in
    record e { acts = d.acts; effects = d.effects ++ e.effects }

-- what a command that came by keys does: it is done, with its list as a message; or the client is
-- told its refusal
abbrev pub keyed : Tables → ℕ → (List ℕ → StatusMessage) → Answer → Deed
keyed t client as_message (Err r) = says_why t client r
keyed t client as_message (Ok d) = with_listed client as_message d.lists d

-- what comes of the command or the line that keys complete: its verdicts and its deed
pub record Ordered : Type 0 where
  pub verdicts : List Verdict
  pub deed : Deed

abbrev pub by_ruling : Tables → Client → (List ℕ → StatusMessage) → Ruling → Ordered
by_ruling t c as_message r = record {
  verdicts = r.verdicts;
  deed = keyed t c.serial as_message r.answer;
}

abbrev pub by_line : Tables → Client → Result Order ParseFault → Ordered
by_line t c (Err f) = by_ruling t c message.Text (line_ruling t (caller_of t c) (Err f))
by_line t c (Ok order) = by_ruling t c (message_of order) (ruling t (caller_of t c) order)

-- what comes of the item that keys complete; an empty line does nothing
abbrev pub ordered : Tables → Client → Option Item → Ordered
ordered t c (Some (bound order)) = by_line t c (Ok order)
ordered t c (Some (line (b ∷ bytes))) = by_line t c (read_line (b ∷ bytes))
ordered t c _ = record { verdicts = []; deed = changing t }

-- whether two effects say the same to the same client: what was said in a step isn't said again
abbrev pub says_same : Effect → Effect → Bool
says_same (Say a x) (Say b y) = (a == b) && bytes_eq x y
says_same _ _ = false

abbrev pub unsaid : List Effect → List Effect → List Effect
unsaid said effects = filter (λ e. not (list_any (says_same e) said)) effects

-- the client after it read these keys: its message ends
abbrev pub reading : List ℕ → Client → Client
reading bytes c = record c { keys = c.keys ++ bytes; message = message.Silence }

-- the outcome of keys: their typed bytes are one item, and the command or line that they complete
-- is another
abbrev pub keys_outcome : Tables → Client → List ℕ → Outcome
keys_outcome t c bytes =
    let given : List Item = items_behind c.keys bytes in
    let d : Client = reading bytes c in
    let typing : Deed = types (with_client t d) d (typed_bytes given) in
    let order : Ordered = ordered typing.tables d (command_item given) in
    finished t (typing_verdicts t c (typed_bytes given) ++ order.verdicts)
    (reply_of (length bytes) 0 0 None)
    (record order.deed { effects = typing.effects ++ unsaid typing.effects order.deed.effects })
