-- The entries of a file, whole or cut.
use Rattle.std.specs.Prelude.{◌≡◌, ◌<◌, ◌≤◌, ℕ, suc, if◌then◌else◌, ◌==◌, true, List, [], ◌∷◌, ◌++◌}
use Rattle.std.specs.Prelude.{Option, Some, take, length}
use Rattle.std.specs.List.{AllByRecursion, flat_map}
use Rattle.line_fields.specs.Cutting.{◌>>=◌}
use Rattle.trail_lines.specs.Entries.{Said, line_of, read_line}
use Rattle.trail_lines.specs.Sayable.{IsSayable}
use Rattle.trail_lines.specs.Lines.{feed, is_unbroken}
use Rattle.trail_lines.specs.Halting.{AreRead}

-- each line ends in a line feed
abbrev pub ended_line : Said → List ℕ
ended_line x = line_of x ++ feed ∷ []

abbrev pub text_of : List Said → List ℕ
text_of said = flat_map ended_line said

-- the lines of a file that end in a line feed, if these bytes of the first line were read already
abbrev pub lines_from : List ℕ → List ℕ → List (List ℕ)
lines_from begun [] = []
lines_from begun (byte ∷ bytes) =
    if byte == feed then begun ∷ lines_from [] bytes else lines_from (begun ++ byte ∷ []) bytes

abbrev pub whole_lines : List ℕ → List (List ℕ)
whole_lines bytes = lines_from [] bytes

-- what lines say, if each says something
abbrev pub read_lines : List (List ℕ) → Option (List Said)
read_lines [] = Some []
read_lines (line ∷ lines) = do
  x ← read_line line
  said ← read_lines lines
  Some (x ∷ said)

abbrev pub read_file : List ℕ → Option (List Said)
read_file bytes = read_lines (whole_lines bytes)

-- this many entries have their line feed within the first n bytes, and no more have
pub record AreWhole (said : List Said) (n count : ℕ) : Type 0 where
  pub within : length (text_of (take count said)) ≤ n
  pub no_more : count < length said → n < length (text_of (take (suc count) said))

-- a file that is cut at any place reads as the entries whose lines are whole
abbrev pub CutFilesAreRead : Type 0
CutFilesAreRead =
    (said : List Said) → AllByRecursion IsSayable said → (n : ℕ)
    → (count : ℕ) × AreWhole said n count
    × (read_file (take n (text_of said)) ≡ Some (take count said))

-- if the lines of entries were read, one after another, up to bytes without a line feed, these are the
-- entries of the whole file
abbrev pub ReadIsTheFile : Type 0
ReadIsTheFile =
    (said : List Said) (bytes rest : List ℕ) → AreRead said bytes rest → is_unbroken rest ≡ true
    → read_file bytes ≡ Some said
