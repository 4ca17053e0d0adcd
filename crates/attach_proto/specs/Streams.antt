-- The messages of a stream, and the bytes after them.
use Rattle.std.specs.Prelude.{◌≡◌, ◌≢◌, ◌⊎◌, ℕ, ◌+◌, ◌*◌, ◌<◌, ◌≤◌, List, [], ◌∷◌, ◌++◌, length}
use Rattle.std.specs.Prelude.{drop, Option, Result, Ok, Err, MatchOption}
use Rattle.std.specs.List.{flat_map, AllByRecursion}
use Rattle.attach_proto.specs.declared.fault.ProtoFault.{ProtoFault}
use Rattle.attach_proto.specs.declared.fault.ProtoFault.TheVariants.{BadKind, TooLong, BadPayload, WrongSide, NoMemory}
use Rattle.attach_proto.specs.declared.kind.Kind.{Kind}
use Rattle.attach_proto.specs.declared.kind.Side.{Side}
use Rattle.attach_proto.specs.declared.message.Message.{Message}
use Rattle.attach_proto.specs.Spelling.{code, spelling, payload, kind_of, reader_of, HasFields, IsSpellable}

-- a message that this side reads
pub record IsRead (side : Side) (m : Message) : Type 0 where
  pub fits : IsSpellable m
  pub side_is : reader_of (kind_of m) ≡ side

-- the stream is the frames of these messages, and then this rest
pub record Splits (side : Side) (stream : List ℕ) (messages : List Message) (rest : List ℕ)
    : Type 0 where
  pub whole : stream ≡ flat_map spelling messages ++ rest
  pub each : AllByRecursion (IsRead side) messages

-- ---- less than a whole frame

-- after the kind: less than two bytes, or a length and fewer bytes than it says
abbrev pub IsUnended : List ℕ → Type 0
IsUnended [] = Unit {0}
IsUnended (h ∷ []) = Unit {0}
IsUnended (h ∷ l ∷ bytes) = (256 * h + l ≤ 8192) × (length bytes < 256 * h + l)

-- nothing, or the beginning of a frame of this side, with no fault in it
abbrev pub Waits : Side → List ℕ → Type 0
Waits side rest =
    (rest ≡ [])
    ⊎ ((k : Kind) × (more : List ℕ)
    × (rest ≡ code k ∷ more) × (reader_of k ≡ side) × IsUnended more)

-- ---- faults, each at the byte that shows it, whatever bytes follow

-- no message has this payload in a frame of this kind
abbrev pub IsNoPayload : Kind → List ℕ → Type 0
IsNoPayload k bytes = (m : Message) → kind_of m ≡ k → payload m ≡ bytes → HasFields m → ⊥

abbrev pub HasFault : Side → List ℕ → ProtoFault → Type 0
-- at the kind
HasFault side rest BadKind =
    (byte : ℕ) × (more : List ℕ) × (rest ≡ byte ∷ more) × ((k : Kind) → code k ≢ byte)
HasFault side rest WrongSide =
    (k : Kind) × (more : List ℕ) × (rest ≡ code k ∷ more) × (reader_of k ≢ side)
-- at the second byte of the length
HasFault side rest TooLong =
    (k : Kind) × (h : ℕ) × (l : ℕ) × (more : List ℕ) × (rest ≡ code k ∷ h ∷ l ∷ more)
    × (reader_of k ≡ side) × (8192 < 256 * h + l)
-- at the end of the payload
HasFault side rest BadPayload =
    (k : Kind) × (h : ℕ) × (l : ℕ) × (bytes : List ℕ) × (more : List ℕ)
    × (rest ≡ code k ∷ h ∷ l ∷ (bytes ++ more)) × (reader_of k ≡ side)
    × (length bytes ≡ 256 * h + l) × (length bytes ≤ 8192) × IsNoPayload k bytes
HasFault side rest NoMemory = ⊥

-- ---- readers

-- What a reader keeps: the beginning of a frame, or a fault.
pub record Reading : Type 0 where
  pub side : Side
  pub rest : List ℕ
  pub fault : Option ProtoFault

-- What follows the messages of a reader: less than a whole frame, which it keeps, or a fault.
abbrev pub EndsIn : Reading → List ℕ → Type 0
EndsIn r rest = MatchOption r.fault (Waits r.side rest × (rest ≡ r.rest)) (HasFault r.side rest)

-- the reader has read this stream, and has given these messages and no others
pub record HasRead (r : Reading) (messages : List Message) (stream : List ℕ) : Type 0 where
  pub rest : List ℕ
  pub splits : Splits r.side stream messages rest
  pub ends : EndsIn r rest

-- What follows the messages at the front of a stream: less than a whole frame, or a fault.
abbrev pub Behind : Side → List ℕ → Option ProtoFault → Type 0
Behind side rest fault = MatchOption fault (Waits side rest) (HasFault side rest)

pub record IsRun (side : Side) (bytes : List ℕ) (messages : List Message) (taken : ℕ)
    (fault : Option ProtoFault)
    : Type 0 where
  pub within : taken ≤ length bytes
  pub splits : Splits side bytes messages (drop taken bytes)
  pub behind : Behind side (drop taken bytes) fault

-- The reader took a piece: these messages came with it, whatever stream it had read.
abbrev pub TakesPiece : Reading → List ℕ → List Message → Reading → Type 0
TakesPiece old piece made new =
    (messages : List Message) (stream : List ℕ) → HasRead old messages stream
    → HasRead new (messages ++ made) (stream ++ piece)

-- what a reader answers: its fault, for good
abbrev pub Answers : Reading → Result (Prim.Unit {0}) ProtoFault → Type 0
Answers r answer = MatchOption r.fault (answer ≡ Ok tt) (λ f. answer ≡ Err f)
