-- The table of frames: a kind of frames is a row of `row_of`, and a line of `of_parts`. A kind that clients heed has
-- a line of what it tells or draws too.
use Rattle.std.specs.Prelude.{◌≡◌, ℕ, true, false, if◌then◌else◌, List, [], ◌∷◌, Option, Some, None}
use Rattle.attach_proto.specs.declared.kind.Side.{Side}
use Rattle.attach_proto.specs.declared.kind.Side.TheVariants.{Server, Peer}
use Rattle.attach_proto.specs.declared.kind.Kind.{Kind}
use Rattle.attach_proto.specs.declared.kind.Kind.TheVariants as kind
use Rattle.attach_proto.specs.declared.message.Message.{Message}
use Rattle.attach_proto.specs.declared.message.Message.TheVariants.{Attach, Window, Command, Keys, Resize, Output}
use Rattle.attach_proto.specs.declared.message.Message.TheVariants.{Detach, Welcome, Draw, Input, Say, Size, Gone}
use Rattle.attach_proto.specs.declared.why.Told.{Told}
use Rattle.attach_proto.specs.Fields.{Field, Number, Byte, WindowNumber, WhyNumber, Token, Name, Last, Nothing, Text}
use Rattle.attach_proto.specs.Fields.{Bytes, NotEmpty, Value, LastValue, Values, read, read_last, ◌>>=◌}

-- what makes a message of the values of fields
abbrev pub LastMaker : Last → Type 0
LastMaker Nothing = Message
LastMaker Text = List ℕ → Message
LastMaker Bytes = List ℕ → Message
LastMaker NotEmpty = List ℕ → Message

abbrev pub Maker : List Field → Last → Type 0
Maker [] l = LastMaker l
Maker (f ∷ fs) l = Value f → Maker fs l

-- the first byte of a kind's frames, the side that reads them, the fields of a payload, and the message of these
pub data Row : Type 0 where
  row : (code : ℕ) (side : Side) (fields : List Field) (last : Last) (make : Maker fields last) → Row

abbrev pub row_of : Kind → Row
row_of kind.Attach = row 0x41 Server (Number ∷ Number ∷ Token ∷ []) Text Attach
row_of kind.Window = row 0x57 Server (Number ∷ Number ∷ Number ∷ Token ∷ Name ∷ []) Text Window
row_of kind.Command = row 0x43 Server (WindowNumber ∷ Token ∷ Name ∷ []) Bytes Command
row_of kind.Keys = row 0x4B Server [] NotEmpty Keys
row_of kind.Resize = row 0x52 Server (Number ∷ Number ∷ []) Nothing Resize
row_of kind.Output = row 0x4F Server [] NotEmpty Output
row_of kind.Detach = row 0x44 Server [] Nothing Detach
row_of kind.Welcome = row 0x79 Peer (Byte ∷ []) Nothing Welcome
row_of kind.Draw = row 0x64 Peer [] NotEmpty Draw
row_of kind.Input = row 0x69 Peer [] NotEmpty Input
row_of kind.Say = row 0x73 Peer [] Text Say
row_of kind.Size = row 0x7A Peer (Number ∷ Number ∷ []) Nothing Size
row_of kind.Gone = row 0x67 Peer (WhyNumber ∷ []) Nothing Gone

abbrev pub all_kinds : List Kind
all_kinds =
    kind.Attach ∷ kind.Window ∷ kind.Command ∷ kind.Keys ∷ kind.Resize ∷ kind.Output ∷ kind.Detach
    ∷ kind.Welcome ∷ kind.Draw ∷ kind.Input ∷ kind.Say ∷ kind.Size ∷ kind.Gone ∷ []

abbrev pub code_in : Row → ℕ
code_in (row code side fields last make) = code

abbrev pub side_in : Row → Side
side_in (row code side fields last make) = side

abbrev pub fields_in : Row → List Field
fields_in (row code side fields last make) = fields

abbrev pub last_in : Row → Last
last_in (row code side fields last make) = last

abbrev pub Parts : Row → Type 0
Parts r = Values (fields_in r) (last_in r)

-- a function of a message's row and of the values of its fields
abbrev pub of_parts {ℓ} : {A : Type ℓ} → ((k : Kind) → Parts (row_of k) → A) → Message → A
of_parts f (Attach rows columns token name) = f kind.Attach (rows, (columns, (token, name)))
of_parts f (Window rows columns keep token name title) =
    f kind.Window (rows, (columns, (keep, (token, (name, title)))))
of_parts f (Command window token name line) = f kind.Command (window, (token, (name, line)))
of_parts f (Keys bytes) = f kind.Keys bytes
of_parts f (Resize rows columns) = f kind.Resize (rows, (columns, tt))
of_parts f (Output bytes) = f kind.Output bytes
of_parts f Detach = f kind.Detach tt
of_parts f (Welcome number) = f kind.Welcome (number, tt)
of_parts f (Draw bytes) = f kind.Draw bytes
of_parts f (Input bytes) = f kind.Input bytes
of_parts f (Say text) = f kind.Say text
of_parts f (Size rows columns) = f kind.Size (rows, (columns, tt))
of_parts f (Gone w) = f kind.Gone (w, tt)

-- ---- the message of the values, and of the bytes of a payload

abbrev pub made_last : (l : Last) → LastMaker l → LastValue l → Message
made_last Nothing make v = make
made_last Text make text = make text
made_last Bytes make bytes = make bytes
made_last NotEmpty make bytes = make bytes

abbrev pub made_by : (fs : List Field) (l : Last) → Maker fs l → Values fs l → Message
made_by [] l make v = made_last l make v
made_by (f ∷ fs) l make v = made_by fs l (make v.0) v.1

abbrev pub made_in : (r : Row) → Parts r → Message
made_in (row code side fields last make) v = made_by fields last make v

abbrev pub read_by : (fs : List Field) (l : Last) → Maker fs l → List ℕ → Option Message
read_by [] l make bytes = read_last l bytes >>= λ v. Some (made_last l make v)
read_by (f ∷ fs) l make bytes = read f bytes >>= λ x. read_by fs l (make x.0) x.1

abbrev pub read_in : Row → List ℕ → Option Message
read_in (row code side fields last make) bytes = read_by fields last make bytes

-- ---- what a message tells a client

abbrev pub untold : Told
untold = record { is_welcome = false; refusal = None; gone = None }

-- A text says why the client isn't let in, unless it is. What the server says later is in the page's last row.
abbrev pub refused : Told → List ℕ → Told
refused t text = if t.is_welcome then t else (record t { refusal = Some text })

abbrev pub noted : Told → Message → Told
noted t (Welcome number) = record t { is_welcome = true }
noted t (Say text) = refused t text
noted t (Gone why) = record t { gone = Some why }
noted t _ = t

-- only a text that is noted takes memory
abbrev pub TakesMemory : Told → Message → Type 0
TakesMemory t (Say text) = t.is_welcome ≡ false
TakesMemory t _ = ⊥

-- the bytes for a client's terminal
abbrev pub draw_in : Message → Option (List ℕ)
draw_in (Draw bytes) = Some bytes
draw_in _ = None
