-- Which messages a browser may send, and why one is refused.
use Rattle.std.specs.Prelude.{◌≡◌, ◌⊎◌, ◌≤◌, ℕ, List, [], ◌∷◌, length, take, drop, Option, Some, None, Result, Ok, Err}
use Rattle.attach_proto.specs.Texts.{IsToken}
use Rattle.web_page.specs.declared.sheet.SheetFault.{SheetFault}
use Rattle.web_page.specs.declared.sheet.SheetFault.TheVariants as sheet
use Rattle.web_client.specs.declared.wire.WireFault.{WireFault}
use Rattle.web_client.specs.declared.wire.WireFault.TheVariants as end
use Rattle.web_page.specs.declared.display.ClientFault.{ClientFault}
use Rattle.web_page.specs.declared.display.ClientFault.TheVariants as client
use Rattle.web_client.specs.declared.identity.Identity.{Identity}
use Rattle.web_client.specs.declared.identity.Identity.TheVariants.{Nobody, Own, Watching, Link, Unknown, Left}
use Rattle.web_client.specs.declared.identity.MessageFault.{MessageFault}
use Rattle.web_client.specs.declared.identity.MessageFault.TheVariants.{Wrong, NoMemory}

-- ---- payloads

-- a number of lines and one of columns, each of two bytes
abbrev pub IsSize : List ℕ → Type 0
IsSize payload = length payload ≡ 4

-- a size, a token of 64 digits, and any name that a frame has room for
abbrev pub IsAttach : List ℕ → Type 0
IsAttach payload =
    (68 ≤ length payload) × (length payload ≤ 8192) × IsToken (take 64 (drop 4 payload))

-- what was typed: at least one byte, and as many as a frame has room for
abbrev pub IsTyped : List ℕ → Type 0
IsTyped payload = (1 ≤ length payload) × (length payload ≤ 8192)

-- ---- messages

-- a message of this kind, whose payload is well formed
abbrev pub Has : ℕ → (List ℕ → Type 0) → List ℕ → Type 0
Has kind IsFormed message = (payload : List ℕ) × (message ≡ kind ∷ payload) × IsFormed payload

-- a bridge that lets anybody watch
abbrev pub IsPublic : {A : Type 0} → Option A → Type 0
IsPublic None = ⊥
IsPublic (Some watcher) = Unit {0}

-- ATTACH, the secret of a link, and WATCH if anybody may watch
abbrev pub IsFirst : {A : Type 0} → Option A → List ℕ → Type 0
IsFirst watcher message =
    Has 0x41 IsAttach message ⊎ (IsPublic watcher × Has 0x56 IsSize message) ⊎ Has 0x4C IsToken message

-- KEYS, RESIZE, DETACH
abbrev pub IsAsking : List ℕ → Type 0
IsAsking message = Has 0x4B IsTyped message ⊎ Has 0x52 IsSize message ⊎ (message ≡ 0x44 ∷ [])

-- of one that watches: RESIZE, DETACH
abbrev pub IsWatching : {A : Type 0} → Option A → List ℕ → Type 0
IsWatching watcher message = (IsPublic watcher × Has 0x52 IsSize message) ⊎ (message ≡ 0x44 ∷ [])

-- A browser attaches, watches or shows a link first, and once. One that showed a link, gave a name that no user can
-- have, or has left, sends nothing more.
abbrev pub IsAllowed : {A : Type 0} → Option A → Identity → List ℕ → Type 0
IsAllowed watcher Nobody message = IsFirst watcher message
IsAllowed watcher (Own c) message = IsAsking message
IsAllowed watcher (Watching rows columns) message = IsWatching watcher message
IsAllowed watcher (Link secret) message = ⊥
IsAllowed watcher Unknown message = ⊥
IsAllowed watcher Left message = ⊥

-- ---- faults

-- A message is wrong if it isn't allowed, and no other is. One that is allowed is taken, unless memory is refused.
abbrev pub IsJudged : {A : Type 0} → Type 0 → Result A MessageFault → Type 0
IsJudged Allowed (Ok taken) = Allowed
IsJudged Allowed (Err Wrong) = Allowed → ⊥
IsJudged Allowed (Err NoMemory) = Allowed

-- memory was refused, or what holds of each message that a frame spells doesn't
abbrev pub FailsFor : Type 0 → ClientFault → Type 0
FailsFor Said client.NoMemory = Unit {0}
FailsFor Said client.Unspellable = Said → ⊥
FailsFor Said client.BadFrame = ⊥

abbrev pub fault_of : ClientFault → MessageFault
fault_of client.NoMemory = NoMemory
fault_of client.Unspellable = Wrong
fault_of client.BadFrame = Wrong

-- what a page that can't be updated ends with
abbrev pub end_of : SheetFault → WireFault
end_of sheet.NoMemory = end.NoMemory
end_of sheet.TooOld = end.Broken
