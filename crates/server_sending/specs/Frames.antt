-- What a peer is sent as frames.
use Rattle.std.specs.Prelude.{◌≡◌, ℕ, ◌<◌, ◌≤◌, ◌⊎◌, List, ◌++◌, Option, None, length, All, ⊤}
use Rattle.std.specs.List.{concat, fold}
use Rattle.acl.specs.declared.user_id.UserId.{UserId}
use Rattle.attach_proto.specs.Spelling.{IsSpellable, frame, spelling}
use Rattle.attach_proto.specs.declared.kind.Kind.{Kind}
use Rattle.attach_proto.specs.declared.kind.Kind.TheVariants as kind
use Rattle.attach_proto.specs.declared.message.Message.{Message}
use Rattle.attach_proto.specs.declared.message.Message.TheVariants as message
use Rattle.server_sending.specs.Written.{Waiting, with_frame}
use Rattle.server_sending.specs.declared.frames.Sending.{Sending}
use Rattle.server_sending.specs.declared.frames.Sending.TheVariants as sending

-- a frame's payload has 1 to 8,192 bytes
abbrev pub IsPiece : List ℕ → Type 0
IsPiece bytes = (0 < length bytes) × (length bytes ≤ 8192)

-- frames of this kind were put after what waited, with who typed them; their payloads are these bytes, piece by
-- piece
pub record PutsFrames (kind : Kind) (typist : Option UserId) (bytes : List ℕ) (old new : Waiting) : Type 0 where
  pub pieces : List (List ℕ)
  pub whole : concat pieces ≡ bytes
  pub each : All IsPiece pieces
  pub put : new ≡ fold (λ turn piece. with_frame typist (frame kind piece) turn) old pieces

-- frames of the first of these bytes were put
abbrev pub PutsFront : Kind → Option UserId → List ℕ → Waiting → Waiting → Type 0
PutsFront kind typist bytes old new =
    (front : List ℕ) × (rest : List ℕ) × (bytes ≡ front ++ rest) × PutsFrames kind typist front old new

-- another frame of the draw follows one with this payload
abbrev pub GoesOn : List ℕ → Type 0
GoesOn bytes = (length bytes ≡ 1) ⊎ (length bytes ≡ 8192)

-- A draw of these bytes was put. Its last frame has 2 to 8,191 bytes, and each one before it has 1 or 8,192.
pub record PutsDraw (bytes : List ℕ) (old new : Waiting) : Type 0 where
  pub pieces : List (List ℕ)
  pub last : List ℕ
  pub whole : concat pieces ++ last ≡ bytes
  pub each : All GoesOn pieces
  pub ends : (1 < length last) × (length last < 8192)
  pub put : new ≡ with_frame None (frame kind.Draw last)
      (fold (λ turn piece. with_frame None (frame kind.Draw piece) turn) old pieces)

-- a message that a frame can hold was put after what waited
abbrev pub PutsMessage : Message → Waiting → Waiting → Type 0
PutsMessage m old new = IsSpellable m × (new ≡ record old { unsent = old.unsent ++ spelling m })

-- what a peer is sent: bytes in frames, anything else in one message
abbrev pub Sends : Sending → Waiting → Waiting → Type 0
Sends (sending.Message m) = PutsMessage m.now
Sends (sending.Draw bytes) = PutsFrames kind.Draw None bytes.now
Sends (sending.Input bytes typist) = PutsFrames kind.Input typist bytes.now
Sends (sending.Say text) = PutsMessage (message.Say text.now)

-- from its frames a client knows where a draw of 2 bytes or more ends
abbrev pub EndsDraw : Sending → Waiting → Waiting → Type 0
EndsDraw (sending.Draw bytes) old new = 1 < length bytes.now → PutsDraw bytes.now old new
EndsDraw other old new = ⊤

-- what was put if it wasn't put whole: of bytes the frames of the first ones, of a message nothing
abbrev pub SendsFront : Sending → Waiting → Waiting → Type 0
SendsFront (sending.Draw bytes) old new = PutsFront kind.Draw None bytes.now old new
SendsFront (sending.Input bytes typist) old new = PutsFront kind.Input typist bytes.now old new
SendsFront other old new = new ≡ old

-- no frame can hold it: a message that isn't spellable, a text that is too long, or bytes that are no text
abbrev pub IsUnspellable : Sending → Type 0
IsUnspellable (sending.Message m) = ¬ (IsSpellable m.now)
IsUnspellable (sending.Say text) = ¬ (IsSpellable (message.Say text.now))
IsUnspellable other = ⊥
