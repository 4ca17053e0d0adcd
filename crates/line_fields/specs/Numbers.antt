-- Numbers in decimal digits.
use Rattle.std.specs.Prelude.{ℕ, Bool, if◌then◌else◌, ◌&&◌, nat_lt, List, length, Option, Some, None}
use Rattle.std.specs.List.{list_all}
use Rattle.std.specs.Char.{is_ascii_digit}
use Rattle.std.specs.Str.Parse.{digits_value}
use Rattle.line_fields.specs.Cutting.{◌>>=◌, cut}

-- one decimal digit or more
unfoldable pub is_number : List ℕ → Bool
is_number word = nat_lt 0 (length word) && list_all is_ascii_digit word

-- the number that the digits say, below a limit
unfoldable pub number_below : ℕ → List ℕ → Option ℕ
number_below limit word =
    if is_number word && nat_lt (digits_value 10 word) limit then Some (digits_value 10 word)
    else None

-- a number that a separator ends, and the bytes after the separator
abbrev pub number_at : ℕ → ℕ → List ℕ → Option (ℕ × List ℕ)
number_at limit separator bytes = do
  parts ← cut separator bytes
  number ← number_below limit parts.0
  Some (number, parts.1)
