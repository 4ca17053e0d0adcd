-- The frames of a page: how they are read from its WebSocket, and what their messages do.
use Rattle.std.specs.Prelude.{◌≡◌, ◌⊎◌, ℕ, zero, suc, ◌≤◌, nat_lt, Bool, false, cond, List, [], ◌++◌}
use Rattle.std.specs.Prelude.{length, take, drop, MatchBool, Option, Some, None, Ok, Err}
use Rattle.std.specs.Int.{w64, from_be_bytes}
use Rattle.websocket.specs.declared.error.Error.{Error}
use Rattle.websocket.specs.declared.protocol.frame.codec.FrameStatus.TheVariants.{Partial, Complete}
use Rattle.websocket.specs.declared.protocol.config.Role.TheVariants.{Server}
use Rattle.websocket.specs.declared.protocol.state.WebSocketState.TheVariants.{Active}
use Rattle.websocket.specs.Content.{Content, text, binary, ping, pong, close}
use Rattle.websocket.specs.Connection.{Connection, Effect, Sends, close_step, failed_connection, read_step}
use Rattle.websocket.specs.Connection.{StartsWithFragment, ReadAsksReply}
use Rattle.websocket.specs.View.{Leaves as LeavesBy}
use Rattle.websocket.specs.declared.protocol.frame.coding.CloseCode.TheVariants.{Policy, Protocol}
use Rattle.web_client.specs.declared.identity.Identity.{Identity}
use Rattle.web_client.specs.declared.identity.Identity.TheVariants.{Nobody, Own, Watching, Link, Unknown, Left}
use Rattle.web_client.specs.declared.wire.Wire.{Wire}
use Rattle.web_client.specs.declared.wire.WireFault.{WireFault}
use Rattle.web_client.specs.declared.wire.WireFault.TheVariants.{TooFarBehind}
use Rattle.web_client.specs.declared.wire.Phase.{Phase}
use Rattle.web_client.specs.declared.wire.Phase.TheVariants.{Request, Socket, Last}
use Rattle.web_client.specs.declared.frame.PageFrame.{PageFrame}
use Rattle.web_client.specs.declared.frame.PageFrame.TheVariants as frame
use Rattle.web_client.specs.declared.visitor.Visitor.{Visitor}
use Rattle.web_requests.specs.declared.site.Site.{Site}
use Rattle.web_requests.specs.declared.requests.Response.{Response}
use Rattle.web_requests.specs.declared.requests.Response.TheVariants as answer
use Rattle.web_requests.specs.Serving.{AnswersBytes}
use Rattle.web_client.specs.Asking.{IfOwn, Takes, Keeps}
use Rattle.web_client.specs.Judging.{IsAllowed}
use Rattle.web_client.specs.declared.visitor.TheConstants.{NOT_UNDERSTOOD, UNKNOWN}
use Rattle.attach_proto.specs.declared.why.Why.TheVariants.{Detached}
use Rattle.web_client.specs.Rows.{Adds, Refuses, TellsLast, gone, Closes as ClosesBy}

-- how far a page's connection is, its WebSocket, the bytes that came and weren't read, its identity, how many bytes of
-- rows it has answered for, and the bytes on their way to it
pub record Page : Type 0 where
  pub phase : Phase
  pub socket : Connection
  pub waiting : List ℕ
  pub identity : Identity
  pub answered : ℕ
  pub output : List ℕ

-- a page with this wire, of which these bytes wait
abbrev pub stands : Wire → List ℕ → Identity → Page
stands wire waiting identity = record {
  phase = wire.phase;
  socket = wire.context;
  waiting = waiting;
  identity = identity;
  answered = wire.answered;
  output = wire.output.items;
}

abbrev pub page : Visitor → Page
page v = stands v.wire v.input.items v.identity

-- the first bytes of those that came are read, and still there
abbrev pub page_after : ℕ → Visitor → Page
page_after n v = stands v.wire (drop n v.input.items) v.identity

-- a WebSocket of a server that has read nothing: frames are masked, and no message is longer than a kind and a payload
abbrev pub fresh : Connection
fresh = record {
  role = Server;
  state = Active;
  config = record { max_message_size = Some 8193; max_frame_size = Some 8193; accept_unmasked_frames = false };
  fragments = None;
}

-- a connection that has sent nothing
abbrev pub begun : Page
begun = record { phase = Request; socket = fresh; waiting = []; identity = Nobody; answered = 0; output = [] }

-- ---- frames

-- The message that a frame has for the bridge. A page sends no texts: one counts as an empty message, which is wrong.
abbrev pub Says : Option Content → List ℕ → Type 0
Says (Some (binary bytes)) message = message ≡ bytes
Says (Some (text bytes)) message = message ≡ []
Says _ message = ⊥

-- a part of a message, a ping or a pong
abbrev pub SaysNothing : Option Content → Type 0
SaysNothing None = Unit {0}
SaysNothing (Some (ping bytes)) = Unit {0}
SaysNothing (Some (pong bytes)) = Unit {0}
SaysNothing _ = ⊥

abbrev pub Closes : Option Content → Type 0
Closes (Some (close reason)) = Unit {0}
Closes _ = ⊥

-- what a frame that was read says
abbrev pub IsSaid : Option Content → PageFrame → Type 0
IsSaid content frame.None = Closes content
IsSaid content frame.Other = SaysNothing content
IsSaid content (frame.Message message) = Says content message.items

-- A pong answers for the number of bytes of rows that its ping had. Shorter ones answer for nothing.
abbrev pub answered_by : List ℕ → ℕ → ℕ
answered_by bytes before = cond (nat_lt (length bytes) 8) before (from_be_bytes w64 (take 8 bytes))

-- how many bytes of rows a page has answered for after a frame
abbrev pub answered_after : Option Content → ℕ → ℕ
answered_after (Some (pong bytes)) before = answered_by bytes before
answered_after _ before = before

-- the bytes that wait begin with this frame: how many bytes it has, and what it does by the WebSocket's protocol
abbrev pub BeginsWith : Page → (ℕ × Effect) → Type 0
BeginsWith p f = read_step p.socket p.waiting ≡ Ok (Complete f)

-- they are less than a whole frame
abbrev pub Waits : Page → Type 0
Waits p = (needed : ℕ) × (read_step p.socket p.waiting ≡ Ok (Partial needed))

-- their frame breaks the protocol; or memory was refused, for a part of a message or for a reply
abbrev pub IsBroken : Page → Type 0
IsBroken p =
    ((e : Error) × (read_step p.socket p.waiting ≡ Err e))
    ⊎ (StartsWithFragment p.socket p.waiting ⊎ ReadAsksReply (read_step p.socket p.waiting))

-- the page is sent the reply that the WebSocket's protocol asks for, if it asks for one, and nothing else
abbrev pub Replies : Effect → Page → Page → Type 0
Replies effect old new = Sends effect.next.role effect.reply old.output new.output

-- a page whose frame can't be read is sent a close frame, and nothing else
abbrev pub Rejects : Page → Page → Type 0
Rejects old new =
    LeavesBy (close_step (failed_connection old.socket) (Some (Protocol, []))) new.socket old.output new.output

-- the frame was read
pub record IsRead (f : ℕ × Effect) (old new : Page) : Type 0 where
  pub next : BeginsWith old f
  pub replies : Replies f.1 old new
  pub phase : new.phase ≡ old.phase
  pub socket : new.socket ≡ f.1.next
  pub waiting : new.waiting ≡ drop f.0 old.waiting
  pub answered : new.answered ≡ answered_after f.1.message old.answered

-- the connection ends at the next frame
abbrev pub EndsAtFrame : Page → Page → Type 0
EndsAtFrame old new =
    (IsBroken old × Rejects old new)
    ⊎ ((f : ℕ × Effect) × BeginsWith old f × Closes f.1.message × Replies f.1 old new)

-- one frame: it was read, or it isn't whole, or the connection ends at it
abbrev pub Reads : Page → PageFrame → Page → Type 0
Reads old frame.None new =
    (Waits old × (new ≡ old))
    ⊎ ((new.phase ≡ Last) × EndsAtFrame old new)
Reads old frame.Other new = (f : ℕ × Effect) × IsRead f old new × SaysNothing f.1.message
Reads old (frame.Message message) new = (f : ℕ × Effect) × IsRead f old new × Says f.1.message message.items

-- ---- messages

-- a browser whose name no user can have, or that has left: its connection ends
abbrev pub IsOut : Identity → Type 0
IsOut Nobody = ⊥
IsOut (Own c) = ⊥
IsOut (Watching rows columns) = ⊥
IsOut (Link secret) = ⊥
IsOut Unknown = Unit {0}
IsOut Left = Unit {0}

-- a message that is taken, and after which the connection goes on
abbrev pub GoesOn : Identity → List ℕ → Identity → Type 0
GoesOn before message after = Takes before message after × (IsOut after → ⊥)

pub record GoesOnBy (message : List ℕ) (old new : Page) : Type 0 where
  pub phase : new.phase ≡ old.phase
  pub socket : new.socket ≡ old.socket
  pub waiting : new.waiting ≡ old.waiting
  pub answered : new.answered ≡ old.answered
  pub output : new.output ≡ old.output
  pub identity : GoesOn old.identity message new.identity

-- Why a browser goes is told: it gave a name that no user can have, or has left a page that it watched.
abbrev pub TellsOut : Identity → Wire → Wire → Type 0
TellsOut Unknown old new = Refuses UNKNOWN.now old new
TellsOut Left old new = TellsLast (gone Detached) old new
TellsOut _ old new = new ≡ old

-- this was sent over the wires of two pages, of which the same bytes wait
abbrev pub IsSentBy : (Wire → Wire → Type 0) → Page → Page → Type 0
IsSentBy Sent old new =
    (before : Wire) × (after : Wire) × (stands before old.waiting old.identity ≡ old)
    × (stands after old.waiting new.identity ≡ new) × Sent before after

-- A message at which the connection ends: it isn't allowed, or it is the last. The page is told that, and no more.
abbrev pub EndsWith : {A : Type 0} → Option A → List ℕ → Page → Page → Type 0
EndsWith watcher message old new =
    ((IsAllowed watcher old.identity message → ⊥) × Keeps old.identity new.identity
    × IsSentBy (ClosesBy Policy NOT_UNDERSTOOD.now) old new)
    ⊎ (Takes old.identity message new.identity × IsOut new.identity × IsSentBy (TellsOut new.identity) old new)

abbrev pub TakesMessage : {A : Type 0} → Option A → List ℕ → Page → Page → Type 0
TakesMessage watcher message old new =
    GoesOnBy message old new ⊎ ((new.phase ≡ Last) × EndsWith watcher message old new)

-- ---- any number of frames

-- a frame was read, and its message taken
pub record TakesFrame (old new : Page) : Type 0 where
  pub frame : ℕ × Effect
  pub read : IsRead frame old new
  pub taken : (SaysNothing frame.1.message × (new.identity ≡ old.identity))
      ⊎ ((message : List ℕ) × Says frame.1.message message × GoesOn old.identity message new.identity)

unfoldable pub TakesFrames : ℕ → Page → Page → Type 0
TakesFrames zero old new = new ≡ old
TakesFrames (suc n) old new = (between : Page) × TakesFrames n old between × TakesFrame between new

-- The connection ends at the next frame: it can't be read, or it closes the connection, or its message is wrong or the
-- last, as the page is told.
abbrev pub EndsAt : {A : Type 0} → Option A → Page → Page → Type 0
EndsAt watcher p new =
    (EndsAtFrame p new × (new.identity ≡ p.identity))
    ⊎ ((f : ℕ × Effect) × (read : Page) × (message : List ℕ) × IsRead f p read × (read.identity ≡ p.identity)
    × Says f.1.message message × EndsWith watcher message read new)

-- no frame is left that is whole, or the connection ended at one
abbrev pub IsDone : {A : Type 0} → Option A → Page → Page → Type 0
IsDone watcher last new = (Waits last × (new ≡ last)) ⊎ ((new.phase ≡ Last) × EndsAt watcher last new)

-- Frames that are whole were read, one after another, and their messages taken: all of them, up to one at which the
-- connection ends; or the first 64, and more may be left.
abbrev pub TakesSome : {A : Type 0} → Option A → Page → Page → Bool → Type 0
TakesSome watcher old new more =
    (n : ℕ) × (last : Page) × TakesFrames n old last
    × MatchBool more ((n ≡ 64) × (new ≡ last)) (IsDone watcher last new)

-- What a browser sends changes how far its connection is, what waits of it, and who it is. Bytes come after those on
-- their way to it. How many bytes of rows it was sent stays, and so do what it was sent of a page, and its address.
pub record Leaves (old new : Visitor) : Type 0 where
  pub adds : Adds old.wire new.wire
  pub sent : new.wire.sent ≡ old.wire.sent
  pub rest : new ≡ record old { wire = new.wire; input = new.input; identity = new.identity }

-- an answer comes after what is on its way, and the connection comes this far
abbrev pub replies : Phase → Visitor → Visitor → Visitor
replies phase old new = record old { wire = record old.wire { phase = phase; output = new.wire.output } }

-- What an answer does: nothing if the request isn't whole yet; it is the last one; or a WebSocket begins after the
-- bytes of the request.
abbrev pub Answers : Response → Visitor → Visitor → Type 0
Answers answer.Part old new = new ≡ old
Answers (answer.Page bytes) old new =
    (new.wire.output.items ≡ old.wire.output.items ++ bytes.items) × (new ≡ replies Last old new)
Answers (answer.Socket upgrade) old new =
    (new.wire.output.items ≡ old.wire.output.items ++ upgrade.answer.items)
    × (new.input.items ≡ drop upgrade.request old.input.items)
    × (new ≡ record (replies Socket old new) { input = new.input; address = upgrade.address })

-- frames that are whole were taken, and what isn't the browser's to change is left
abbrev pub TakesOpen : Site → Visitor → Visitor → Bool → Type 0
TakesOpen site old new more = TakesSome site.watcher (page old) (page new) more × Leaves old new

-- the answer was given, and the frames that came after the request were taken
abbrev pub TakesRequest : Site → Response → Visitor → Visitor → Bool → Type 0
TakesRequest site (answer.Socket upgrade) old new more =
    (opened : Visitor) × Answers (answer.Socket upgrade) old opened × TakesOpen site opened new more
TakesRequest site a old new more = (more ≡ false) × Answers a old new

-- what came of a browser is taken, and more may be left
abbrev pub TakesBytes : Site → Phase → Visitor → Visitor → Bool → Type 0
TakesBytes site Request old new more =
    (a : Response) × AnswersBytes site old.input.items a × TakesRequest site a old new more
TakesBytes site Socket old new more = TakesOpen site old new more
TakesBytes site Last old new more = (more ≡ false) × (new ≡ old)

-- ---- bounds

-- bytes on their way to a browser, none of them taken by the system yet
abbrev pub IsWithin : Wire → Type 0
IsWithin w = length w.output.items ≤ 2097152

-- it is read: what waits for its own client, and for itself, is little
abbrev pub CanRead : Visitor → Type 0
CanRead v =
    (v.wire.phase ≡ Last → ⊥) × (length v.wire.output.items ≤ 65536)
    × IfOwn v.identity (λ c. length c.outgoing ≤ 65536)

-- one is given up if more waits than may, and for nothing else
abbrev pub IsGivenUp : Type 0 → WireFault → Type 0
IsGivenUp Bounded fault = (fault ≡ TooFarBehind) × ¬ Bounded

-- what is kept for a browser: bytes that it sent, and bytes on their way to it
abbrev pub IsBounded : Visitor → Type 0
IsBounded v = (length v.input.items ≤ 32768) × IsWithin v.wire
