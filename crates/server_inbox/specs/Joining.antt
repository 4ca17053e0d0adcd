-- Keys and sizes are taken out of what a client sent, and joined to those that wait.
use Rattle.std.specs.Prelude.{◌≡◌, ◌++◌, ◌∷◌, ℕ, Bool, true, false, List, [], Option, Some, length}
use Rattle.attach_proto.specs.Streams.{Reading}
use Rattle.attach_proto.specs.declared.message.Message.{Message}
use Rattle.attach_proto.specs.declared.message.Message.TheVariants as message
use Rattle.server_inbox.specs.Asking.{Gives}
use Rattle.server_inbox.specs.declared.inbox.Inbox.{Inbox}
use Rattle.server_typing.specs.Sized.{with_size}
use Rattle.server_typing.specs.Typed.{Typed, takes, typed_at}
use Rattle.server_typing.specs.declared.Sizing.{Sizing}

-- keys are joined to those that wait if they have room or are late, and a size takes the place of the last one
abbrev pub Joins : ℕ → Message → Typed × Sizing → Typed × Sizing → Type 0
Joins now (message.Keys bytes) old new =
    (takes now (length bytes) old.0 ≡ true) × (new ≡ (typed_at now bytes old.0, old.1))
Joins now (message.Resize rows columns) old new = new ≡ (old.0, with_size (rows, columns) old.1)
Joins now other old new = ⊥

-- these were joined, in order
abbrev pub JoinAll : ℕ → List Message → Typed × Sizing → Typed × Sizing → Type 0
JoinAll now [] old new = new ≡ old
JoinAll now (m ∷ messages) old new = (mid : Typed × Sizing) × Joins now m old mid × JoinAll now messages mid new

-- a message isn't joined: it is something else, or keys that have no room yet
abbrev pub Stays : ℕ → Typed → Message → Type 0
Stays now typed (message.Keys bytes) = takes now (length bytes) typed ≡ false
Stays now typed (message.Resize rows columns) = ⊥
Stays now typed other = Unit {0}

-- the message that comes next isn't joined
abbrev pub NextStays : ℕ → Inbox → Type 0
NextStays now inbox =
    (rest : List Message) (m : Message) → inbox.messages.items ≡ rest ++ m ∷ [] → Stays now inbox.typed m

-- the message that came next was joined
pub record JoinsNext (now : ℕ) (old new : Inbox) : Type 0 where
  pub next : Message
  pub out : old.messages.items ≡ new.messages.items ++ next ∷ []
  pub joins : Joins now next (old.typed, old.sizing) (new.typed, new.sizing)
  pub same : new ≡ record old { messages = new.messages; typed = new.typed; sizing = new.sizing }

-- The messages that came next were joined, in order and each once: all that are joined (true), or as many as one call
-- takes (false). Without memory the first of them were.
pub record IsGathered (now : ℕ) (old : Inbox) (reader : Reading) (new : Inbox) (left : Reading) (far : Option Bool)
    : Type 0 where
  pub messages : List Message
  pub gives : Gives old reader messages new left
  pub joined : JoinAll now messages (old.typed, old.sizing) (new.typed, new.sizing)
  pub begun : new.begun ≡ old.begun
  pub through : far ≡ Some true → NextStays now new
  pub most : far ≡ Some false → length messages ≡ 64
