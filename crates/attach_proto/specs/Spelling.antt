-- The one spelling of each message.
use Rattle.std.specs.Prelude.{ℕ, ◌≤◌, List, ◌∷◌, ◌++◌, length}
use Rattle.attach_proto.specs.declared.kind.Side.{Side}
use Rattle.attach_proto.specs.declared.kind.Kind.{Kind}
use Rattle.attach_proto.specs.declared.message.Message.{Message}
use Rattle.attach_proto.specs.Fields.{two, all_spelled, AreSaid}
use Rattle.attach_proto.specs.Table.{row_of, code_in, side_in, fields_in, last_in, Parts, of_parts}

-- the first byte of a kind's frames
abbrev pub code : Kind → ℕ
code k = code_in (row_of k)

-- the side that reads them
abbrev pub reader_of : Kind → Side
reader_of k = side_in (row_of k)

abbrev pub kind_of : Message → Kind
kind_of m = of_parts (λ k v. k) m

abbrev pub spelled_in : (k : Kind) → Parts (row_of k) → List ℕ
spelled_in k v = all_spelled (fields_in (row_of k)) (last_in (row_of k)) v

abbrev pub payload : Message → List ℕ
payload m = of_parts spelled_in m

-- a kind, a length in two bytes, and that many bytes
abbrev pub frame : Kind → List ℕ → List ℕ
frame k bytes = code k ∷ (two (length bytes) ++ bytes)

unfoldable pub spelling : Message → List ℕ
spelling m = frame (kind_of m) (payload m)

abbrev pub AreSaidIn : (k : Kind) → Parts (row_of k) → Type 0
AreSaidIn k v = AreSaid (fields_in (row_of k)) (last_in (row_of k)) v

-- its fields have a spelling
abbrev pub HasFields : Message → Type 0
HasFields m = of_parts AreSaidIn m

-- a frame spells it
pub record IsSpellable (m : Message) : Type 0 where
  pub fields : HasFields m
  pub short : length (payload m) ≤ 8192
