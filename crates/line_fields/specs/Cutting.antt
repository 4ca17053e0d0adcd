-- Fields of a line, each ended by one byte.
use Rattle.std.specs.Prelude.{ℕ, Bool, ◌+◌, ◌==◌, List, [], take, drop, Option, Some, None}
use Rattle.std.specs.List.{position, slice_split}

-- reading goes on with what was read, if something was
infixl 10 ◌>>=◌
abbrev pub ◌>>=◌ : {A B : Type 0} → Option A → (A → Option B) → Option B
None >>= f = None
(Some x) >>= f = f x

abbrev pub is_byte : ℕ → ℕ → Bool
is_byte separator byte = byte == separator

-- the bytes before the first separator, and those after it
abbrev pub cut_at : List ℕ → Option ℕ → Option (List ℕ × List ℕ)
cut_at bytes None = None
cut_at bytes (Some at) = Some (take at bytes, drop (at + 1) bytes)

unfoldable pub cut : ℕ → List ℕ → Option (List ℕ × List ℕ)
cut separator bytes = cut_at bytes (position (is_byte separator) bytes)

-- ---- words

-- the words between separators
abbrev pub words : ℕ → List ℕ → List (List ℕ)
words separator bytes = slice_split (is_byte separator) bytes

-- the words after a first one, if a separator ended it
abbrev pub words_behind : ℕ → Option (List ℕ) → List (List ℕ)
words_behind separator None = []
words_behind separator (Some rest) = words separator rest
