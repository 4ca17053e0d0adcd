-- What a peer makes of what the server sends.
use Rattle.std.specs.Prelude.{◌≡◌, ℕ, ◌==◌, Bool, true, false, ◌||◌, ◌⊎◌, List, [], ◌∷◌, ◌++◌, length, decimal}
use Rattle.std.specs.Prelude.{Option, Some, None, IfSome, IsSomeAnd, Result, option_map, string_bytes}
use Rattle.attach_proto.specs.declared.message.Message.{Message}
use Rattle.attach_proto.specs.declared.message.Message.TheVariants as message
use Rattle.attach_proto.specs.declared.why.Why.{Why}
use Rattle.attach_proto.specs.Streams.{Reading, TakesPiece}
use Rattle.client_page.specs.declared.page.KeptPage.{KeptPage}
use Rattle.client_page.specs.Kept.{TakesSize}
use Rattle.client_notice.specs.Notices.{HearsLater}
use Rattle.client_words.specs.Visible.{visible}
use Rattle.client_words.specs.declared.arguments.Subcommand.{Subcommand}
use Rattle.client_words.specs.declared.arguments.Subcommand.TheVariants.{Attach, Window, Command}
use Rattle.client_words.specs.declared.fault.PeerFault.{PeerFault}
use Rattle.client_peer.specs.Ending.{end_for}
use Rattle.client_peer.specs.declared.peer.Peer.{Peer}
use Rattle.client_peer.specs.Sending.{ComesAgain}

-- these bytes come after those that wait for standard output, and nothing else changes
abbrev pub PutsOut : Peer → List ℕ → Peer → Type 0
PutsOut old bytes new = (new.bytes.items ≡ old.bytes.items ++ bytes) × (new ≡ record old { bytes = new.bytes })

-- another frame of the draw follows one of 1 or 8,192 bytes
abbrev pub goes_on : List ℕ → Bool
goes_on bytes = (length bytes == 1) || (length bytes == 8192)

-- Input is for the window's program. If the window comes back, it waits until the window is opened again.
pub record TakesInput (old : Peer) (bytes : List ℕ) (new : Peer) : Type 0 where
  pub waits : ComesAgain old
      → (new.early.items ≡ old.early.items ++ bytes) × (new ≡ record old { early = new.early })
  pub comes : (ComesAgain old → ⊥) → PutsOut old bytes new

-- A draw is passed on whole; while the terminal shows the help, it is left out.
abbrev pub Shows : Bool → Peer → List ℕ → Peer → Type 0
Shows true old bytes new =
    new ≡ record old { is_cut = goes_on bytes; is_covered = goes_on bytes || old.is_helping }
Shows false old bytes new =
    PutsOut (record old {
      is_cut = goes_on bytes;
      has_drawn = true;
      draws = new.draws;
      notice = record old.notice { is_hidden = true };
    }) bytes new

-- what a text is on standard output
abbrev pub printed : Subcommand → List ℕ → List ℕ
printed Command text = visible text ++ 0x0A ∷ []
printed subcommand text = []

-- once a client is let in, a text is shown on its last line, unless the status line has it
pub record Notes (old : Peer) (text : List ℕ) (new : Peer) : Type 0 where
  pub client : old.subcommand ≡ Attach → HearsLater old.typing.assists text old.notice new.notice
  pub other : (old.subcommand ≡ Attach → ⊥) → new ≡ old
  pub rest : new ≡ record old { notice = new.notice }

-- A text before the server let the peer in says why it doesn't; each text for a command is printed.
abbrev pub Says : Bool → Peer → List ℕ → Peer → Type 0
Says true old text new = Notes old text new
Says false old text new =
    IsSomeAnd new.said (λ said. string_bytes said ≡ text)
    × PutsOut (record old { said = new.said }) (printed old.subcommand text) new

-- a line of the sizes' file
abbrev pub size_line : ℕ → ℕ → List ℕ
size_line rows columns = decimal rows ++ 0x20 ∷ decimal columns ++ 0x0A ∷ []

-- A window that opens gets its first size. One that comes back is to be opened again first.
pub record LetsOpen (old new : Peer) : Type 0 where
  pub first : old.was_welcome ≡ false → (new.is_reopening ≡ false) × (new.page_number ≡ old.number)
      × (new.sizes.items ≡ old.sizes.items ++ size_line old.rows old.columns)
  pub again : old.was_welcome ≡ true → (new.is_reopening ≡ true) × (new.page_number ≡ old.page_number)
      × (new.sizes ≡ old.sizes)

-- the server has let the peer in
pub record IsLetIn (old new : Peer) : Type 0 where
  pub window : old.subcommand ≡ Window → LetsOpen old new
  pub client : (old.subcommand ≡ Window → ⊥) → (new.is_reopening ≡ false) × (new.page_number ≡ old.page_number)
      × (new.sizes ≡ old.sizes)
  pub here : new.is_welcome ≡ true
  pub was : new.was_welcome ≡ true
  pub found : new.loss ≡ None
  pub rest : new ≡ record old {
    is_welcome = true;
    was_welcome = true;
    is_reopening = new.is_reopening;
    loss = None;
    times = record old.times { wants_fit = old.fits };
    page_number = new.page_number;
    sizes = new.sizes;
  }

-- a command is never let in, and another peer once
abbrev pub LetsIn : Subcommand → Bool → Peer → Peer → Type 0
LetsIn Command is_welcome old new = new ≡ old
LetsIn subcommand true old new = new ≡ old
LetsIn subcommand false old new = IsLetIn old new

-- the kept page has this size, or isn't kept any more
abbrev pub IsSized : KeptPage → ℕ → ℕ → KeptPage → Type 0
IsSized old rows columns new =
    (TakesSize old.emulator rows columns new.emulator ⊎ (new.emulator ≡ None))
    × (new ≡ record old { emulator = new.emulator })

-- a window with another size
abbrev pub sized : Peer → ℕ → ℕ → Peer → Peer
sized old rows columns new =
    record old { rows = rows; columns = columns; page = new.page; sizes = new.sizes }

-- what a message has for standard output, for the sizes' file and for the terminal's last line
abbrev pub Delivers : Peer → Message → Peer → Type 0
Delivers old (message.Draw bytes) new = (old.subcommand ≡ Attach) × Shows old.is_covered old bytes new
Delivers old (message.Say text) new =
    (old.is_welcome ≡ true → Notes old text new) × (old.is_welcome ≡ false → new ≡ old)
Delivers old (message.Input bytes) new = (old.subcommand ≡ Window) × TakesInput old bytes new
Delivers old (message.Size rows columns) new =
    (old.subcommand ≡ Window) × (new.sizes.items ≡ old.sizes.items ++ size_line rows columns)
    × IsSized old.page rows columns new.page
    × (new ≡ sized old rows columns new)
Delivers old (message.Welcome number) new = new ≡ record old { number = number }
Delivers old other new = new ≡ old

-- what a peer makes of a message
abbrev pub Hears : Peer → Message → Peer → Type 0
Hears old (message.Say text) new = Says old.is_welcome old text new
Hears old (message.Welcome number) new = LetsIn old.subcommand old.is_welcome (record old { number = number }) new
Hears old other new = Delivers old other new

-- in order, and each once
pub data HearsAll : Peer → List Message → Peer → Type 0 where
  none : {p : Peer} → HearsAll p [] p
  next : {old middle new : Peer} {front : List Message} (m : Message) → HearsAll old front middle
      → Hears middle m new → HearsAll old (front ++ m ∷ []) new

-- why the server lets the peer go by a message
abbrev pub gone_in : Message → Option Why
gone_in (message.Gone why) = Some why
gone_in other = None

-- All of these messages were heard, or those up to the one by which the server lets the peer go.
pub record HearsFirst (old : Peer) (messages : List Message) (gone : Option Why) (new : Peer) : Type 0 where
  pub heard : List Message
  pub later : List Message
  pub whole : messages ≡ heard ++ later
  pub hears : HearsAll old heard new
  pub all : gone ≡ None → later ≡ []
  pub last : IfSome gone (λ why. (front : List Message) × (heard ≡ front ++ message.Gone why ∷ []))

-- The messages that a read completes were heard, and the peer ends if the server lets it go.
pub record HearsRead (old : Peer) (reader : Reading) (piece : List ℕ) (new : Peer) (later : Reading)
    (end : Option (Result Why PeerFault))
    : Type 0 where
  pub made : List Message
  pub gone : Option Why
  pub takes : TakesPiece reader piece made later
  pub hears : HearsFirst old made gone new
  pub ends : end ≡ option_map (end_for old.subcommand) gone
