-- A scrollback: the last lines that left a page at the top, by index or by a wrap.
use Rattle.std.specs.Prelude.{◌≡◌, ℕ, List, [], ◌∷◌, ◌++◌, map}
use Rattle.circular_buffer.specs.Buffer.{keep_last}
use Rattle.cells.specs.declared.cell.Cell.{Cell}
use Rattle.cells.specs.Resizing.{line_resized}

-- how many lines it keeps at most, their width, and the lines, the newest last
pub record Kept : Type 0 where
  pub keep : ℕ
  pub columns : ℕ
  pub lines : List (List Cell)

-- no line yet
abbrev pub no_lines : ℕ → ℕ → Kept
no_lines keep columns = record { keep = keep; columns = columns; lines = [] }

-- one more line was taken in
abbrev pub with_line : Kept → List Cell → Kept
with_line kept line = record kept { lines = keep_last kept.keep (kept.lines ++ line ∷ []) }

-- all lines are cut or filled up to another width
abbrev pub resized_lines : Kept → ℕ → Kept
resized_lines kept columns =
    record kept { columns = columns; lines = map (line_resized columns) kept.lines }

-- it has the last lines of this list
abbrev pub StandsFor : Kept → List (List Cell) → Type 0
StandsFor kept lines = kept.lines ≡ keep_last kept.keep lines

-- of every list whose last lines it had, it has the last lines with one more at the end
abbrev pub Continues : Kept → Kept → List Cell → Type 0
Continues old new line =
    (lines : List (List Cell)) → StandsFor old lines → StandsFor new (lines ++ line ∷ [])

-- of every list whose last lines it had, it has the last lines in another width
abbrev pub ContinuesResized : Kept → Kept → ℕ → Type 0
ContinuesResized old new columns =
    (lines : List (List Cell)) → StandsFor old lines
    → StandsFor new (map (line_resized columns) lines)
