-- Texts of captions and of the status line, as cells of one rendition.
use Rattle.std.specs.Prelude.{ℕ, ◌+◌, false, ◌&&◌, ◌==◌, if◌then◌else◌, List, [], ◌∷◌, ◌++◌, slice_index_or}
use Rattle.cells.specs.declared.cell.Cell.{Cell}
use Rattle.cells.specs.declared.rendition.Rendition.{Rendition}
use Rattle.cells.specs.Line.{is_left, narrow_cell, left_cell, right_cell}
use Rattle.terminal_model.specs.Printing.{columns_of, drawn}

-- U+FFFD stands for a control, for a character of width 0 such as a mark, and for a character that
-- a terminal draws so (UAX #11)
abbrev pub visible : ℕ → ℕ
visible c = if columns_of c == 0 then 0xFFFD else drawn c

-- a character's cells: one, or two halves
abbrev pub char_cells : Rendition → ℕ → List Cell
char_cells r c =
    if columns_of c == 2 then left_cell c r false ∷ right_cell c r false ∷ []
    else narrow_cell (visible c) r false ∷ []

abbrev pub text_cells : Rendition → List ℕ → List Cell
text_cells r [] = []
text_cells r (c ∷ cs) = char_cells r c ++ text_cells r cs

-- the cell in one of n columns; at the edge another cell stands for half of a wide character
abbrev pub uncut : ℕ → ℕ → Cell → Cell → Cell
uncut columns column cell other =
    if (column + 1 == columns) && is_left cell.shape then other else cell

-- a column, from 0, of a text in n columns: the text is cut at the edge, and blanks of its
-- rendition follow it
abbrev pub text_at : Rendition → List ℕ → ℕ → ℕ → Cell
text_at r text columns column =
    let space : Cell = narrow_cell 32 r false in
    uncut columns column (slice_index_or (text_cells r text) column space) space
