-- What a client has of the server's stream.
use Rattle.std.specs.Prelude.{◌≡◌, ℕ, List, [], ◌∷◌, ◌++◌, Option, Some, None}
use Rattle.attach_proto.specs.declared.message.Message.{Message}
use Rattle.attach_proto.specs.declared.why.Told.{Told}
use Rattle.attach_proto.specs.declared.kind.Side.TheVariants.{Peer}
use Rattle.attach_proto.specs.declared.fault.ProtoFault.{ProtoFault}
use Rattle.attach_proto.specs.declared.fault.ProtoFault.TheVariants as proto
use Rattle.attach_proto.specs.Streams.{Reading, HasRead}
use Rattle.attach_proto.specs.Table.{untold, noted, draw_in}
use Rattle.terminal_model.specs.Reading.{Terminal, reads}
use Rattle.terminal_model.specs.Writing.{Size}
use Rattle.emulator.specs.Standing.{StandsFor, TakesWriting}
use Rattle.web_page.specs.Showing.{Sheet, AreAsFar, IsBlank as IsBlankSheet}
use Rattle.web_page.specs.declared.display.ClientFault.{ClientFault}
use Rattle.web_page.specs.declared.display.ClientFault.TheVariants as client

-- the name that the client gave, what was read of the stream, the page that it draws, and whether
-- and why the server lets the client in or go
pub record WebDisplay : Type 0 where
  pub name : List ℕ
  pub reading : Reading
  pub sheet : Sheet
  pub told : Told

-- the display of a client that has heard nothing: it has the size and the name, and no token
pub record IsBlank (rows columns : ℕ) (name : List ℕ) (d : WebDisplay) : Type 0 where
  pub called : d.name ≡ name
  pub unread : d.reading ≡ record { side = Peer; rest = []; fault = None }
  pub sheet : IsBlankSheet rows columns d.sheet
  pub told : d.told ≡ untold

unfoldable pub all_noted : Told → List Message → Told
all_noted t [] = t
all_noted t (m ∷ later) = all_noted (noted t m) later

-- browsers are as far as they were, and no moment has ended
abbrev pub KeepsSent : (old new : Sheet) → Type 0
KeepsSent old new = (new.moment ≡ old.moment) × AreAsFar old new

-- its page has another size, and nothing else of the stream was read
pub record IsResized (rows columns : ℕ) (old new : WebDisplay) : Type 0 where
  pub sheet : TakesWriting old.sheet.terminal (Size rows columns) new.sheet.terminal
  pub sent : KeepsSent old.sheet new.sheet
  pub name : new.name ≡ old.name
  pub reading : new.reading ≡ old.reading
  pub told : new.told ≡ old.told

-- a terminal reads the bytes of a draw
abbrev pub read_draw : Terminal → Option (List ℕ) → Terminal
read_draw t None = t
read_draw t (Some bytes) = (reads t bytes).terminal

abbrev pub drawn : Terminal → Message → Terminal
drawn t m = read_draw t (draw_in m)

unfoldable pub all_drawn : Terminal → List Message → Terminal
all_drawn t [] = t
all_drawn t (m ∷ later) = all_drawn (drawn t m) later

-- The client took bytes of a stream: its reader gave their messages, its page is that of a terminal that has
-- read their draws, and it knows what they tell, whatever came before.
abbrev pub Hears : WebDisplay → List ℕ → WebDisplay → Type 0
Hears old bytes new =
    (messages : List Message) (stream : List ℕ) (t : Terminal) → HasRead old.reading messages stream
    → StandsFor old.sheet.terminal t
    → (made : List Message) × HasRead new.reading (messages ++ made) (stream ++ bytes)
    × StandsFor new.sheet.terminal (all_drawn t made) × (new.told ≡ all_noted old.told made)

-- what a fault of the stream is to a client
abbrev pub heard_fault : ProtoFault → ClientFault
heard_fault proto.NoMemory = client.NoMemory
heard_fault _ = client.BadFrame

-- memory was refused, or the stream has a fault
abbrev pub FailsToHear : Reading → ClientFault → Type 0
FailsToHear r client.NoMemory = Unit {0}
FailsToHear r client.BadFrame = (fault : ProtoFault) × (r.fault ≡ Some fault)
FailsToHear r client.Unspellable = ⊥
