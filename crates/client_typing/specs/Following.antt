-- What of the input is sent, and what has read it.
use Rattle.std.specs.Prelude.{◌≡◌, ℕ, List, [], ◌++◌, Option, Some, None}
use Rattle.client_words.specs.declared.leaving.LeaveReader.{LeaveReader}
use Rattle.client_words.specs.declared.leaving.InputStage.{InputStage}
use Rattle.client_words.specs.declared.leaving.InputStage.TheVariants.{Reading, Left}
use Rattle.client_words.specs.Leaving.{sent}
use Rattle.client_words.specs.Stands.{HasRead}
use Rattle.keys.specs.Grammar.{nothing}
use Rattle.keys.specs.Kept.{Keeping, StandsFor, rest_of}
use Rattle.client_typing.specs.declared.typing.Typing.{Typing}

-- `typed` is what is to be sent of this input: all of it, or the input without the byte that leaves
abbrev pub LetsThrough : Option LeaveReader → List ℕ → List ℕ → Option LeaveReader → Type 0
LetsThrough None input typed None = typed ≡ input
LetsThrough None input typed (Some after) = ⊥
LetsThrough (Some reader) input typed None = ⊥
LetsThrough (Some reader) input typed (Some after) =
    (before : List ℕ) → HasRead reader before
    → HasRead after (before ++ input) × (sent reader.byte (before ++ input) ≡ sent reader.byte before ++ typed)

-- this byte leaves, if there is one, and none was read yet
abbrev pub LeavesBy : Option ℕ → Option LeaveReader → Type 0
LeavesBy None reader = reader ≡ None
LeavesBy (Some byte) None = ⊥
LeavesBy (Some byte) (Some reader) = (reader.byte ≡ byte) × HasRead reader []

-- how far the input was read in looking for the byte that leaves
abbrev pub stage_of : Option LeaveReader → InputStage
stage_of None = Reading
stage_of (Some reader) = reader.stage

-- the user leaves, if there is a byte that leaves
abbrev pub Leaves : Option LeaveReader → Option LeaveReader → Type 0
Leaves None new = new ≡ None
Leaves (Some old) None = ⊥
Leaves (Some old) (Some new) = new.stage ≡ Left

-- the reader has read these keys too
abbrev pub Follows : Keeping → List ℕ → Keeping → Type 0
Follows old keys new = (before : List ℕ) → StandsFor old before → StandsFor new (before ++ keys)

-- no key was read yet
abbrev pub IsUnread : Typing → Type 0
IsUnread t = StandsFor t.keys []

-- the byte that leaves, whether the client has keys of its own, and how often something was typed
abbrev pub IsSet : Typing → Typing → Type 0
IsSet old new = (new.leave ≡ old.leave) × (new.assists ≡ old.assists) × (new.reads ≡ old.reads)

-- but for the keys that it has read
abbrev pub StaysBeside : Typing → Typing → Type 0
StaysBeside old new =
    (new.leave ≡ old.leave) × (new.assists ≡ old.assists) × (new.reads ≡ old.reads)
    × (new.back ≡ old.back) × (new.asks_help ≡ old.asks_help)

-- the session waits for no key: no prompt is open, and the command key wasn't typed last
abbrev pub Rests : Typing → Type 0
Rests t = rest_of t.keys ≡ nothing
