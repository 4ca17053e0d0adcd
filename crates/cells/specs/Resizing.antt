-- A change of size keeps the upper left part. New places are blank, and so is a half that is cut
-- off.
use Rattle.std.specs.Prelude.{ℕ, List, map}
use Rattle.std.specs.List.{range_with_len}
use Rattle.cells.specs.declared.cell.Cell.{Cell}
use Rattle.cells.specs.Line.{Old, settled, source_before, source_after}
use Rattle.cells.specs.Page.{From, line_from}

-- a line of another width: each column keeps its cell, and a new column is blank
abbrev pub line_resized : ℕ → List Cell → List Cell
line_resized width cells =
    map (λ column. settled cells (source_before Old column) (Old column)
    (source_after Old width column))
    (range_with_len 0 width)

-- a page of another size: each line keeps its place, and new lines at the bottom are blank
abbrev pub page_resized : ℕ → ℕ → List (List Cell) → List (List Cell)
page_resized rows columns page =
    map (λ line. line_from (From line) columns page) (range_with_len 0 rows)
