-- The parts of a step of keys.
use Rattle.std.specs.Prelude.{ℕ, ◌≡◌, ◌++◌, List, Option, Some, Result}
use Rattle.command_lang.specs.declared.command.Command.{Command}
use Rattle.command_lang.specs.declared.fault.ParseFault.{ParseFault}
use Rattle.keys.specs.Kept.{Keeping, StandsFor}
use Rattle.session_model.specs.declared.event.StatusMessage.{StatusMessage}
use Rattle.session_model.specs.Tables.{Tables, Client, client_at, with_client, row_of}
use Rattle.session_model.specs.Deeds.{hearing}
use Rattle.session_model.specs.Keying.{items_behind, taken, typed_bytes, command_item}
use Rattle.session_model.specs.Answering.{reading}
use Rattle.session_state.specs.declared.client.Client.{Client as Row}
use Rattle.session_state.specs.Moves.{in_focus}
use Rattle.session_state.specs.declared.state.Caller.{Caller}
use Rattle.session_state.specs.declared.state.Step.{Step}
use Rattle.session_state.specs.declared.state.State.{State}
use Rattle.session_state.specs.Stands.{Stands}
use Rattle.session_model.specs.Sound.{AreFit}
use Rattle.session_state.specs.Doing.{HasDone}
use Rattle.session_input.specs.declared.key_step.KeysRead.{KeysRead}
use Rattle.session_input.specs.Given.{given}
use Rattle.session_input.specs.Typing.{caller_by}
use Rattle.session_input.specs.Obeying.{Obeyed}
use Rattle.session_input.specs.Reads.{keys_deed, keys_verdicts, read_of, HasEnded}

-- the caller of a client's keys, from the client's row
abbrev pub caller_now : Row → Caller
caller_now c = record { user = c.user; client = Some c.serial; window = in_focus c }

-- there is a client with the serial
abbrev pub IsHere : ℕ → State → Type 0
IsHere client s = (c : Row) × (row_of (λ (c : Row). c.serial) s.clients client ≡ Some c)

-- what these keys give after those before: what they type, and the command or the line; the reader has
-- read them all
pub record AreRead (c : Client) (keys : List ℕ) (reader : Keeping) (typed : List ℕ)
    (order : Option (Result Command ParseFault)) : Type 0 where
  pub typed_is : typed ≡ typed_bytes (items_behind c.keys keys)
  pub order_is : order ≡ given (command_item (items_behind c.keys keys))
  pub reads : StandsFor reader (c.keys ++ keys)

-- this many of the bytes were read
pub record IsReading (c : Client) (bytes : List ℕ) (reader : Keeping) (r : KeysRead) : Type 0 where
  pub taken_is : r.taken ≡ taken c.keys bytes
  pub read : AreRead c (read_of c bytes) reader r.typed r.order

-- so it was for every client whose keys the reader had read
abbrev pub ReadsOf : Keeping → List ℕ → Keeping → KeysRead → Type 0
ReadsOf old bytes new r = (c : Client) → StandsFor old c.keys → IsReading c bytes new r

-- a client that has read these keys and says this
abbrev pub read_by : StatusMessage → List ℕ → Client → Client
read_by message keys c = hearing message (reading keys c)

-- the command that keys complete was obeyed, once the client had read them and had this message
abbrev pub ObeysRead : Caller → ℕ → Keeping → StatusMessage → Result Command ParseFault →
    State → State → Step → Step → Type 0
ObeysRead k client reader message order old new before after =
    (t : Tables) (c : Client) (keys : List ℕ) → Stands t old → AreFit t
    → client_at t client ≡ Some c → k ≡ caller_by client c → StandsFor reader (c.keys ++ keys)
    → Obeyed (with_client t (read_by message keys c)) (reading keys c) (Some order) new before after

-- the deed of keys was done, and their verdicts were noted
pub record AreGiven (t : Tables) (c : Client) (keys : List ℕ) (new : State) (before after : Step) :
    Type 0 where
  pub done : HasDone t (keys_deed t c keys) new before.made after.made
  pub verdicts : after.verdicts.items ≡ before.verdicts.items ++ keys_verdicts t c keys

-- so it was for all tables that the state stood for
abbrev pub Gives : Caller → ℕ → Keeping → List ℕ → Option (Result Command ParseFault) →
    State → State → Step → Step → Type 0
Gives k client reader typed order old new before after =
    (t : Tables) (c : Client) (keys : List ℕ) → Stands t old → AreFit t
    → client_at t client ≡ Some c → k ≡ caller_by client c → AreRead c keys reader typed order
    → AreGiven t c keys new before after

-- the deed of keys was done, and then users left windows
pub record HaveEnded (t : Tables) (c : Client) (keys : List ℕ) (new : State) (before after : Step) :
    Type 0 where
  pub ended : HasEnded t (keys_deed t c keys) new before.made after.made
  pub verdicts : after.verdicts.items ≡ before.verdicts.items ++ keys_verdicts t c keys

abbrev pub Ends : Caller → ℕ → Keeping → List ℕ → Option (Result Command ParseFault) →
    State → State → Step → Step → Type 0
Ends k client reader typed order old new before after =
    (t : Tables) (c : Client) (keys : List ℕ) → Stands t old → AreFit t
    → client_at t client ≡ Some c → k ≡ caller_by client c → AreRead c keys reader typed order
    → HaveEnded t c keys new before after
