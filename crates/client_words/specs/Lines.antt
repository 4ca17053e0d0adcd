-- Lines that say the size of a terminal: `ROWS COLS`, two numbers with one blank between them.
use Rattle.std.specs.Prelude.{ℕ, Bool, if◌then◌else◌, ◌==◌, ◌&&◌, nat_lt, nat_le, is_none}
use Rattle.std.specs.Prelude.{List, [], ◌∷◌, length, Option, Some, None}
use Rattle.std.specs.List.{list_all, list_any, before_first, after_first, slice_split, filter_map, last_or}
use Rattle.std.specs.Char.{is_ascii_digit}
use Rattle.std.specs.Str.Parse.{digits_value}
use Rattle.client_words.specs.declared.size_lines.TerminalSize.{TerminalSize}

-- ---- one line, without its line feed

abbrev pub is_blank : ℕ → Bool
is_blank byte = byte == 0x20

-- 1 to 4 decimal digits
unfoldable pub is_number : List ℕ → Bool
is_number word =
    nat_lt 0 (length word) && nat_le (length word) 4 && list_all is_ascii_digit word

abbrev pub number_of : List ℕ → Option ℕ
number_of word = if is_number word then Some (digits_value 10 word) else None

-- 4 to 200 lines by 20 to 300 columns
abbrev pub is_size : ℕ → ℕ → Bool
is_size rows columns = nat_le 4 rows && nat_le rows 200 && nat_le 20 columns && nat_le columns 300

abbrev pub size_by : Option ℕ → Option ℕ → Option TerminalSize
size_by (Some rows) (Some columns) =
    if is_size rows columns then Some (record { rows = rows; columns = columns }) else None
size_by _ _ = None

-- the numbers before and after the first blank
unfoldable pub size_of : List ℕ → Option TerminalSize
size_of line =
    size_by (number_of (before_first is_blank line)) (number_of (after_first is_blank line))

-- ---- the lines of some bytes

abbrev pub is_feed : ℕ → Bool
is_feed byte = byte == 0x0A

abbrev pub all_but_last : List (List ℕ) → List (List ℕ)
all_but_last [] = []
all_but_last (part ∷ []) = []
all_but_last (part ∷ next ∷ parts) = part ∷ all_but_last (next ∷ parts)

abbrev pub last_of : List (List ℕ) → List ℕ
last_of [] = []
last_of (part ∷ []) = part
last_of (part ∷ next ∷ parts) = last_of (next ∷ parts)

-- the lines that a line feed ends
unfoldable pub ended : List ℕ → List (List ℕ)
ended bytes = all_but_last (slice_split is_feed bytes)

-- the bytes after the last line feed
unfoldable pub unended : List ℕ → List ℕ
unended bytes = last_of (slice_split is_feed bytes)

-- ---- what lines say

-- the last size that lines say
abbrev pub last_size : List (List ℕ) → Option TerminalSize
last_size lines = last_or None (filter_map size_of lines)

-- whether a line says no size
abbrev pub has_other : List (List ℕ) → Bool
has_other lines = list_any (λ line. is_none (size_of line)) lines
