-- Which keys are marked: a bit for each, 64 in a word.
use Rattle.std.specs.Prelude.{◌≡◌, ◌≢◌, ◌↔◌, ◌≤◌, ◌<◌, ℕ, ◌*◌, ◌/◌, ◌%◌, ◌^◌, ◌-◌, List, length, get_or, set}
use Rattle.std.specs.Prelude.{bit_and, bit_or}
use Rattle.std.specs.Int.{bit_at}

abbrev pub IsMarked : List ℕ → ℕ → Type 0
IsMarked words key = bit_at (get_or words (key / 64) 0) (key % 64) ≡ 1

-- a key has room for its mark
abbrev pub HasRoom : List ℕ → ℕ → Type 0
HasRoom words key = key < 64 * length words

-- the same keys are marked
abbrev pub HaveSameMarks : List ℕ → List ℕ → Type 0
HaveSameMarks old new = (key : ℕ) → IsMarked new key ↔ IsMarked old key

-- the marks, and that of a key that has room
abbrev pub with_mark : List ℕ → ℕ → List ℕ
with_mark words key = set words (key / 64) (bit_or (get_or words (key / 64) 0) (1 * 2 ^ (key % 64) % 2 ^ 64))

-- the marks but for that of a key
abbrev pub without_mark : List ℕ → ℕ → List ℕ
without_mark words key =
    set words (key / 64) (bit_and (get_or words (key / 64) 0) (2 ^ 64 - 1 - 1 * 2 ^ (key % 64) % 2 ^ 64))

-- the same keys are marked, but perhaps for this one, and the same ones have room
pub record IsSameBut (key : ℕ) (old new : List ℕ) : Type 0 where
  pub others : (k : ℕ) → k ≢ key → IsMarked new k ↔ IsMarked old k
  pub room : length new ≡ length old

-- this is the first marked key from that one on
pub record IsNext (words : List ℕ) (from key : ℕ) : Type 0 where
  pub behind : from ≤ key
  pub marked : IsMarked words key
  pub first : (k : ℕ) → from ≤ k → k < key → ¬ (IsMarked words k)

-- none is marked from this key on
abbrev pub NoneFrom : List ℕ → ℕ → Type 0
NoneFrom words from = (key : ℕ) → from ≤ key → ¬ (IsMarked words key)

-- this is the first bit of a word that is set, from that one on
pub record IsFirstBit (word from bit : ℕ) : Type 0 where
  pub within : (from ≤ bit) × (bit < 64)
  pub is_set : bit_at word bit ≡ 1
  pub first : (i : ℕ) → from ≤ i → i < bit → ¬ (bit_at word i ≡ 1)

-- none of a word is, from this one on
abbrev pub HasNoBit : ℕ → ℕ → Type 0
HasNoBit word from = (i : ℕ) → from ≤ i → i < 64 → ¬ (bit_at word i ≡ 1)
