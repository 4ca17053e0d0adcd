-- The texts and the rows that a browser is sent.
use Rattle.std.specs.Prelude.{◌≡◌, ◌⊎◌, ℕ, ◌+◌, ◌-◌, ◌^◌, ◌≤◌, min, true, List, [], ◌++◌, length, codes}
use Rattle.std.specs.Prelude.{Option, Some, None, IsSome, decimal, Bool, ◌&&◌, ◌||◌, not, MatchBool}
use Rattle.std.specs.Str.{chars}
use Rattle.std.specs.Int.{w64, to_be_bytes}
use Rattle.websocket.specs.declared.protocol.frame.coding.OpCode.TheVariants as code
use Rattle.websocket.specs.declared.protocol.frame.coding.Data.TheVariants.{Text}
use Rattle.websocket.specs.declared.protocol.frame.coding.Control.TheVariants.{Ping}
use Rattle.websocket.specs.declared.protocol.frame.coding.CloseCode.{CloseCode}
use Rattle.websocket.specs.declared.protocol.frame.coding.CloseCode.TheVariants.{Normal, Away}
use Rattle.websocket.specs.Connection.{Sends, close_step}
use Rattle.websocket.specs.View.{Leaves}
use Rattle.terminal_model.specs.Reading.{Terminal}
use Rattle.emulator.specs.Standing.{StandsFor}
use Rattle.web_page.specs.Updates.{Update, spelled}
use Rattle.web_page.specs.Laying.{Shown, laid, page_of}
use Rattle.web_page.specs.Showing.{Sheet, IsShown}
use Rattle.web_client.specs.declared.wire.SentPage.{SentPage}
use Rattle.web_client.specs.declared.wire.Wire.{Wire}
use Rattle.web_client.specs.declared.wire.Phase.TheVariants.{Last}
use Rattle.web_page.specs.Hearing.{WebDisplay}
use Rattle.web_page.specs.Json.{spelled_text}
use Rattle.attach_proto.specs.Fields.{reason}
use Rattle.attach_proto.specs.declared.why.Why.{Why}
use Rattle.attach_proto.specs.declared.why.Why.TheVariants.{Fault}
use Rattle.attach_proto.specs.declared.why.Told.{Told}

-- a frame with this text comes after the bytes on their way to the browser
pub record SendsText (text : List ℕ) (old new : Wire) : Type 0 where
  pub phase : new.phase ≡ old.phase
  pub context : new.context ≡ old.context
  pub counts : (new.sent ≡ old.sent) × (new.answered ≡ old.answered)
  pub frame : Sends old.context.role (Some (record { opcode = code.Data Text; payload = text })) old.output.items
      new.output.items

-- The browser is asked to answer for all rows that it was sent: a ping with their number of bytes. Its pong has the
-- same, and comes after it has read what was sent before.
pub record Asks (old new : Wire) : Type 0 where
  pub phase : new.phase ≡ old.phase
  pub context : new.context ≡ old.context
  pub counts : (new.sent ≡ old.sent) × (new.answered ≡ old.answered)
  pub frame : Sends old.context.role
      (Some (record { opcode = code.Control Ping; payload = to_be_bytes w64 old.sent })) old.output.items
      new.output.items

-- a browser was sent nothing of a page, or all before a moment
abbrev pub IsAsFar : ℕ → Sheet → Shown → Type 0
IsAsFar since sheet b = (since ≡ 0) ⊎ IsShown since sheet b

-- it was sent all before the next moment: it shows the whole sheet, and needs nothing until that changes
abbrev pub IsUpToDate : ℕ → Sheet → Shown → Type 0
IsUpToDate since sheet b = (since ≡ sheet.moment) × IsShown since sheet b

-- these bytes count as rows
abbrev pub counted : ℕ → Wire → Wire
counted n w = record w { sent = min (w.sent + n) (2 ^ 64 - 1) }

-- A browser that shows this needs nothing to show a terminal's page, or it's sent the update that makes the page of
-- what it shows, and asked to answer for it.
abbrev pub SendsPage : Terminal → Shown → Wire → Wire → Type 0
SendsPage t b old new =
    ((new ≡ old) × (b ≡ page_of t.screen))
    ⊎ ((u : Update) × (w : Wire) × (laid u b ≡ page_of t.screen) × SendsText (spelled u) old w
    × Asks (counted (length (spelled u)) w) new)

-- bytes come after those on their way to the browser
abbrev pub Adds : Wire → Wire → Type 0
Adds old new = (more : List ℕ) × (new.output.items ≡ old.output.items ++ more)

-- Nothing waits for the browser, and it has answered for all rows but at most 4,096 bytes.
abbrev pub HasRoom : Wire → Type 0
HasRoom w = (w.output.items ≡ []) × (w.sent ≤ w.answered + 4096)

-- Rows are sent if the server let the client in: when the browser has read the last ones, and at the end.
abbrev pub IsDue : WebDisplay → Wire → Type 0
IsDue d w = (d.told.is_welcome ≡ true) × (HasRoom w ⊎ IsSome d.told.gone)

-- ---- texts that a browser is told: no character of them is markup

abbrev pub said : List ℕ → List ℕ
said text = codes "{\"say\":\"" ++ spelled_text (chars text) ++ codes "\"}"

-- it is let in
abbrev pub welcomed : List ℕ
welcomed = codes "{\"welcome\":1}"

-- the bridge is there
abbrev pub here : List ℕ
here = codes "{\"here\":1}"

-- why it goes
abbrev pub gone : Why → List ℕ
gone why = codes "{\"gone\":" ++ decimal (reason why) ++ codes "}"

-- the user and the token that a link stands for
abbrev pub handed : (name token : List ℕ) → List ℕ
handed name token =
    codes "{\"user\":\"" ++ spelled_text (chars name) ++ codes "\",\"token\":\"" ++ spelled_text (chars token)
    ++ codes "\"}"

-- the connection ends, with a close frame of this code and reason unless it has sent one
pub record Closes (code : CloseCode) (reason : List ℕ) (old new : Wire) : Type 0 where
  pub phase : new.phase ≡ Last
  pub counts : (new.sent ≡ old.sent) × (new.answered ≡ old.answered)
  pub frame : Leaves (close_step old.context (Some (code, reason))) new.context old.output.items new.output.items

-- a text is told, and then the connection ends as it should
abbrev pub TellsLast : List ℕ → Wire → Wire → Type 0
TellsLast text old new = (v : Wire) × SendsText text old v × Closes Normal [] v new

-- why it isn't let in, and then its end
abbrev pub Refuses : List ℕ → Wire → Wire → Type 0
Refuses reason old new = (v : Wire) × SendsText (said reason) old v × TellsLast (gone Fault) v new

-- that the connection to the server ended, or why there is none; the page may come back
abbrev pub TellsAway : List ℕ → Wire → Wire → Type 0
TellsAway reason old new = (v : Wire) × SendsText (said reason) old v × Closes Away reason v new

-- that the bridge is there, and the browser is asked whether it is
abbrev pub TellsHere : Wire → Wire → Type 0
TellsHere old new = (v : Wire) × SendsText here old v × Asks v new

-- ---- all that a browser is sent

-- an update that it is asked to answer for
abbrev pub MaySendRows : Wire → Wire → Type 0
MaySendRows old new =
    (new ≡ old)
    ⊎ ((u : Update) × (w : Wire) × SendsText (spelled u) old w × Asks (counted (length (spelled u)) w) new)

abbrev pub Explains : Option (List ℕ) → Wire → Wire → Type 0
Explains None old new = new ≡ old
Explains (Some text) old new = SendsText (said text) old new

-- nothing, or at the end why the server refused the client, and why the client is gone
abbrev pub Ends : Option (List ℕ) → Option Why → Wire → Wire → Type 0
Ends refusal None old new = new ≡ old
Ends refusal (Some why) old new = (v : Wire) × Explains refusal old v × TellsLast (gone why) v new

-- that it is let in is told if the server has let it in, and it wasn't told before
abbrev pub Welcomes : (is_welcome was_told : Bool) → Wire → Wire → Type 0
Welcomes is_welcome was_told old new =
    MatchBool (is_welcome && not was_told) (SendsText welcomed old new) (new ≡ old)

-- That it is let in, which is told once; rows; and its end: these come after what is on its way, in this order, and
-- nothing else does.
pub record SendsAll (told : Told) (before after : SentPage) (old new : Wire) : Type 0 where
  pub let_in : Wire
  pub welcomes : Welcomes told.is_welcome before.is_welcomed old let_in
  pub once : after.is_welcomed ≡ (told.is_welcome || before.is_welcomed)
  pub shown : Wire
  pub shows : MaySendRows let_in shown
  pub ends : Ends told.refusal told.gone shown new

-- What is sent makes the page of a terminal that has read all draws, of what the browser shows.
abbrev pub Shows : (old : WebDisplay) (since : ℕ) (before : Wire) (new : WebDisplay) (later : ℕ) (after : Wire) → Type 0
Shows old since before new later after =
    (t : Terminal) (b : Shown) → StandsFor old.sheet.terminal t → IsAsFar since old.sheet b
    → (v : Wire) × (w : Wire) × Adds before v × SendsPage t b v w × Adds w after
    × StandsFor new.sheet.terminal t × IsUpToDate later new.sheet (page_of t.screen)
