-- What a connection has still to write, how it stands to all that was put into it, and which frames of it users typed.
use Rattle.std.specs.Prelude.{◌≡◌, ◌≤◌, ◌+◌, ◌-◌, ℕ, Bool, true, List, [], ◌∷◌, ◌++◌, Option, Some, None}
use Rattle.std.specs.Prelude.{if◌then◌else◌, length, take, drop, map, filter, nat_le}
use Rattle.acl.specs.declared.user_id.UserId.{UserId}
use Rattle.acl.specs.Same.{same_user}
use Rattle.server_sending.specs.declared.typists.TypedFrame.{TypedFrame}

pub record Waiting : Type 0 where
  pub unsent : List ℕ
  -- the frames in it that users typed and of which nothing was written, by their places
  pub typed : List TypedFrame
  -- a step other than a draw was made since the last draw
  pub told : Bool
  -- the last bytes were put
  pub has_ended : Bool

-- of the bytes that were put, a writer holds those that were written, and the rest waits; its contents are known
abbrev pub IsWritten : List ℕ → Option (List ℕ) → Waiting → Type 0
IsWritten put None turn = ⊥
IsWritten put (Some written) turn = put ≡ written ++ turn.unsent

-- the last bytes are put once
abbrev pub ended : List ℕ → Waiting → Waiting
ended last turn = if turn.has_ended then turn else record turn {
  unsent = turn.unsent ++ last;
  has_ended = true;
}

-- a frame is put, and who typed it is noted
abbrev pub with_frame : Option UserId → List ℕ → Waiting → Waiting
with_frame None bytes turn = record turn { unsent = turn.unsent ++ bytes }
with_frame (Some user) bytes turn = record turn {
  unsent = turn.unsent ++ bytes;
  typed = turn.typed ++ record { user = user; from = length turn.unsent; len = length bytes } ∷ [];
}

-- ---- frames that were typed

-- they are one after the other, from a place on, and end in time
abbrev pub AreWithin : ℕ → List TypedFrame → ℕ → Type 0
AreWithin at [] end = at ≤ end
AreWithin at (f ∷ frames) end = (at ≤ f.from) × AreWithin (f.from + f.len) frames end

-- its place, after this many bytes were written
abbrev pub moved_up : ℕ → TypedFrame → TypedFrame
moved_up n f = record f { from = f.from - n }

-- after this many bytes were written, those that were begun are nobody's any more
abbrev pub unbegun : ℕ → List TypedFrame → List TypedFrame
unbegun n frames = map (moved_up n) (filter (λ (f : TypedFrame). nat_le n f.from) frames)

-- the places up to which bytes stay, if what a user typed goes: to the frame, or to its end
abbrev pub stays_to : UserId → TypedFrame → ℕ
stays_to user f = if same_user f.user user then f.from else f.from + f.len

-- the bytes from a place on, without the frames that a user typed
abbrev pub without_frames : UserId → ℕ → List TypedFrame → List ℕ → List ℕ
without_frames user at [] bytes = bytes
without_frames user at (f ∷ frames) bytes =
    take (stays_to user f - at) bytes
    ++ without_frames user (f.from + f.len) frames (drop ((f.from + f.len) - at) bytes)

-- the frames of others, after this many bytes before them went
abbrev pub frames_of_others : UserId → ℕ → List TypedFrame → List TypedFrame
frames_of_others user gone [] = []
frames_of_others user gone (f ∷ frames) =
    if same_user f.user user then frames_of_others user (gone + f.len) frames
    else record f { from = f.from - gone } ∷ frames_of_others user gone frames

-- all frames of a user go of which nothing was written
abbrev pub without_typed : UserId → Waiting → Waiting
without_typed user turn = record turn {
  unsent = without_frames user 0 turn.typed turn.unsent;
  typed = frames_of_others user 0 turn.typed;
}
