-- Why a peer fails by what the server sends: for no other cause, unless memory was refused.
use Rattle.std.specs.Prelude.{◌≡◌, ◌≢◌, ◌⊎◌, ℕ, false, List, ◌∷◌, ◌++◌, IsSome, Result, Ok, Err}
use Rattle.attach_proto.specs.declared.fault.ProtoFault.{ProtoFault}
use Rattle.attach_proto.specs.declared.fault.ProtoFault.TheVariants as proto
use Rattle.attach_proto.specs.declared.message.Message.{Message}
use Rattle.attach_proto.specs.declared.message.Message.TheVariants as message
use Rattle.attach_proto.specs.Streams.{Reading, TakesPiece}
use Rattle.client_words.specs.declared.arguments.Subcommand.{Subcommand}
use Rattle.client_words.specs.declared.arguments.Subcommand.TheVariants.{Attach, Window}
use Rattle.client_words.specs.declared.fault.PeerFault.{PeerFault}
use Rattle.client_words.specs.declared.fault.PeerFault.TheVariants.{NoDraw, NoMemory, NoServerOfOurs}
use Rattle.draw_check.specs.Functions.{BeginDraws}
use Rattle.draw_check.specs.Places.{place_after}
use Rattle.client_peer.specs.declared.peer.Peer.{Peer}
use Rattle.client_peer.specs.Hearing.{HearsAll}
use Rattle.client_peer.specs.Sending.{HasMoreFrames}

-- all that came, and these bytes after it, don't begin functions that draws use
abbrev pub IsNoDraw : Peer → List ℕ → PeerFault → Type 0
IsNoDraw p bytes e =
    (e ≡ NoMemory) ⊎ ((e ≡ NoDraw) × ((came : List ℕ) → p.draws ≡ place_after came → BeginDraws (came ++ bytes) → ⊥))

-- the same, of a draw that isn't left out
abbrev pub IsNotShown : Peer → List ℕ → PeerFault → Type 0
IsNotShown p bytes e = (p.is_covered ≡ false) × IsNoDraw p bytes e

-- Typing fails for want of memory, or if the help isn't what draws use. Then nothing is put down for the terminal, and
-- no part of a frame for the server.
abbrev pub FailsTyping : Peer → Peer → PeerFault → Type 0
FailsTyping old new e =
    ((e ≡ NoMemory) ⊎ (e ≡ NoDraw)) × (new.bytes.items ≡ old.bytes.items)
    × HasMoreFrames old.frames.items new.frames.items

-- a server of ours sends it to another kind of peer
abbrev pub IsForeign : Subcommand → Message → Type 0
IsForeign subcommand (message.Draw bytes) = subcommand ≢ Attach
IsForeign subcommand (message.Input bytes) = subcommand ≢ Window
IsForeign subcommand (message.Size rows columns) = subcommand ≢ Window
IsForeign subcommand other = ⊥

abbrev pub IsDrawnBy : Peer → Message → PeerFault → Type 0
IsDrawnBy p (message.Draw bytes) e = (p.subcommand ≡ Attach) × IsNotShown p bytes e
IsDrawnBy p other e = ⊥

-- why a message isn't heard
abbrev pub FailsBy : Peer → Message → PeerFault → Type 0
FailsBy p m e = (e ≡ NoMemory) ⊎ (IsDrawnBy p m e ⊎ ((e ≡ NoServerOfOurs) × IsForeign p.subcommand m))

-- one of these messages isn't heard, after those before it
pub record FailsAt (old : Peer) (messages : List Message) (e : PeerFault) : Type 0 where
  pub heard : List Message
  pub at : Message
  pub later : List Message
  pub middle : Peer
  pub whole : messages ≡ heard ++ at ∷ later
  pub hears : HearsAll old heard middle
  pub fails : FailsBy middle at e

-- all are heard, and what follows them is no message
abbrev pub FailsAfter : Result (Prim.Unit {0}) ProtoFault → PeerFault → Type 0
FailsAfter (Ok done) e = ⊥
FailsAfter (Err proto.NoMemory) e = e ≡ NoMemory
FailsAfter (Err other) e = e ≡ NoServerOfOurs

-- why a read fails
abbrev pub FailsRead : Peer → Reading → List ℕ → Reading → PeerFault → Type 0
FailsRead old reader piece later e =
    (e ≡ NoMemory) ⊎ ((made : List Message) × TakesPiece reader piece made later
    × (FailsAt old made e ⊎ ((e ≡ NoServerOfOurs) × IsSome later.fault)))
