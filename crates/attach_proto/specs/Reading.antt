-- The front of a stream, read from the left: a whole frame, a fault, or less than a whole frame.
-- Each function that cites these definitions is proved to agree with `Streams` and `Spelling`.
use Rattle.std.specs.Prelude.{ℕ, ◌+◌, ◌*◌, Bool, true, false, nat_lt, ◌==◌, if◌then◌else◌, List, []}
use Rattle.std.specs.Prelude.{◌∷◌, length, take, find, Option, Some, None}
use Rattle.attach_proto.specs.declared.fault.ProtoFault.TheVariants.{BadKind, TooLong, BadPayload, WrongSide}
use Rattle.attach_proto.specs.declared.kind.Side.{Side}
use Rattle.attach_proto.specs.declared.kind.Side.TheVariants.{Server, Peer}
use Rattle.attach_proto.specs.declared.kind.Kind.{Kind}
use Rattle.attach_proto.specs.declared.message.Message.{Message}
use Rattle.attach_proto.specs.declared.reading.Front.{Front}
use Rattle.attach_proto.specs.declared.reading.Front.TheVariants.{Part, Broken, Whole}
use Rattle.attach_proto.specs.Table.{all_kinds, row_of, read_in}
use Rattle.attach_proto.specs.Spelling.{reader_of, code}

-- the kind whose frames begin with this byte
abbrev pub kind_at : ℕ → Option Kind
kind_at n = find (λ k. n == code k) all_kinds

-- the message of a frame of this kind with this payload
unfoldable pub message_of : Kind → List ℕ → Option Message
message_of k bytes = read_in (row_of k) bytes

-- a frame that has come whole: its message and how many bytes it takes, or a fault
abbrev pub ended : ℕ → Option Message → Front
ended n None = Broken BadPayload
ended n (Some m) = Whole m (n + 3)

abbrev pub of_length : Kind → ℕ → List ℕ → Front
of_length k n bytes =
    if nat_lt 8192 n then Broken TooLong
    else (if nat_lt (length bytes) n then Part
    else ended n (message_of k (take n bytes)))

abbrev pub sized : Kind → List ℕ → Front
sized k [] = Part
sized k (h ∷ []) = Part
sized k (h ∷ l ∷ bytes) = of_length k (256 * h + l) bytes

abbrev pub same_side : Side → Side → Bool
same_side Server Server = true
same_side Peer Peer = true
same_side Server Peer = false
same_side Peer Server = false

abbrev pub of_kind : Side → Option Kind → List ℕ → Front
of_kind side None bytes = Broken BadKind
of_kind side (Some k) bytes =
    if same_side (reader_of k) side then sized k bytes else Broken WrongSide

unfoldable pub front : Side → List ℕ → Front
front side [] = Part
front side (k ∷ bytes) = of_kind side (kind_at k) bytes
