-- How what is to be done for a connection stands to the bytes that were read from it.
use Rattle.std.specs.Prelude.{◌≡◌, ◌==◌, ◌&&◌, ℕ, Bool, true, false, List, [], ◌++◌, drop, reverse, take, None}
use Rattle.std.specs.Prelude.{◌+◌, ◌-◌, ◌^◌, is_none, length, min, vec_len}
use Rattle.attach_proto.specs.Streams.{HasRead, Reading}
use Rattle.attach_proto.specs.declared.message.Message.{Message}
use Rattle.attach_proto.specs.declared.message.Message.TheVariants as message
use Rattle.server_typing.specs.Typed.{is_idle}
use Rattle.server_inbox.specs.declared.inbox.Asked.{Asked}
use Rattle.server_inbox.specs.declared.inbox.Inbox.{Inbox}

-- the printed bytes of a message that aren't done yet
abbrev pub rest_of : Message → ℕ → List ℕ
rest_of (message.Output bytes) done = drop done bytes
rest_of other done = []

-- those of them that one step does
abbrev pub piece_of : Message → ℕ → List ℕ
piece_of m done = take 8192 (rest_of m done)

-- that step was made
abbrev pub advanced : Asked → Asked
advanced asked = record asked { done = min (asked.done + length (piece_of asked.message asked.done)) (2 ^ 64 - 1) }

-- all that was read was taken out
abbrev pub is_taken : Inbox → Bool
is_taken inbox = (vec_len inbox.messages == 0) && is_none inbox.begun

-- no message, key or size is left to be done
abbrev pub is_empty : Inbox → Bool
is_empty inbox = (is_taken inbox && is_idle inbox.typed) && is_none inbox.sizing.wanted

-- nothing was lost for want of memory: if it is broken, bytes came that are no frame
abbrev pub IsWhole : Bool → Reading → Type 0
IsWhole broken reader = broken ≡ true → reader.fault ≡ None → ⊥

-- Of the messages of this stream these were taken out, in order. These others are next, the last one first; and these
-- bytes of the stream weren't looked at yet, unless some were lost for want of memory.
pub record HasTaken (messages : List Message) (unseen : List ℕ) (broken : Bool) (reader : Reading)
    (taken : List Message) (stream : List ℕ)
    : Type 0 where
  pub made : List Message
  pub seen : List ℕ
  pub left : List ℕ
  pub read : HasRead reader made seen
  pub order : made ≡ taken ++ reverse messages
  pub bytes : stream ≡ seen ++ left
  pub whole : IsWhole broken reader → left ≡ unseen
  -- if it isn't broken, no byte was wrong
  pub sound : broken ≡ false → reader.fault ≡ None

abbrev pub Lies : Inbox → Reading → List Message → List ℕ → Type 0
Lies inbox reader = HasTaken inbox.messages.items (drop inbox.seen inbox.rest.items) inbox.is_broken reader

-- all bytes were looked at, unless a message waits or a byte was wrong
abbrev pub IsThrough : Inbox → Type 0
IsThrough inbox = inbox.messages.items ≡ [] → inbox.is_broken ≡ false → (inbox.rest.items ≡ []) × (inbox.seen ≡ 0)

-- these were taken out of the messages of this stream, and all bytes were looked at before more is read
pub record Stands (inbox : Inbox) (reader : Reading) (taken : List Message) (stream : List ℕ) : Type 0 where
  pub lies : Lies inbox reader taken stream
  pub through : IsThrough inbox

-- these bytes were read when nothing was left to be done
abbrev pub TakesIn : Inbox → Reading → List ℕ → Inbox → Reading → Type 0
TakesIn old reader bytes new left = (taken : List Message) (stream : List ℕ) → old.messages.items ≡ []
    → old.is_broken ≡ false → Stands old reader taken stream → Stands new left taken (stream ++ bytes)

-- these were taken out
abbrev pub Gives : Inbox → Reading → List Message → Inbox → Reading → Type 0
Gives old reader messages new left = (taken : List Message) (stream : List ℕ) → Stands old reader taken stream
    → Stands new left (taken ++ messages) stream

-- more of the stream was looked at: keys and sizes that were taken in, and the message that was begun, stay
abbrev pub refilled : Inbox → Inbox → Inbox
refilled old new = record old {
  messages = new.messages;
  rest = new.rest;
  seen = new.seen;
  is_broken = new.is_broken;
}
