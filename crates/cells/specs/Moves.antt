use Rattle.std.specs.Prelude.{ℕ, ◌+◌, ◌-◌, Bool, ◌&&◌, cond, nat_lt, nat_le}
use Rattle.cells.specs.declared.cell.Cell.{Cell}
use Rattle.cells.specs.Line.{blank}
use Rattle.cells.specs.Page.{Origin, New, From}

-- a line of the lines from top to bottom
abbrev pub is_between : ℕ → ℕ → ℕ → Bool
is_between top bottom line = nat_le top line && nat_le line bottom

-- the lines from top to bottom go up by count, and blank ones follow them (ECMA-48: DL, 8.3.32; and
-- the scroll of IND at the bottom margin, VT220 Programmer Reference Manual)
abbrev pub scrolled_up : ℕ → ℕ → ℕ → ℕ → ℕ → Origin
scrolled_up top bottom count line column =
    cond (is_between top bottom line)
    (cond (nat_le (line + count) bottom) (From (line + count) column) (New blank))
    (From line column)

-- the lines from top to bottom go down by count, after blank ones (ECMA-48: IL, 8.3.67; and the
-- scroll of RI at the top margin, 8.3.104)
abbrev pub scrolled_down : ℕ → ℕ → ℕ → ℕ → ℕ → Origin
scrolled_down top bottom count line column =
    cond (is_between top bottom line)
    (cond (nat_le (top + count) line) (From (line - count) column) (New blank))
    (From line column)

-- the lines from `first` up to but not including `end` are blank (ECMA-48: ED, 8.3.39)
abbrev pub erased_lines : ℕ → ℕ → ℕ → ℕ → Origin
erased_lines first end line column =
    cond (nat_le first line && nat_lt line end) (New blank) (From line column)

-- every place of the page gets the same cell (DECALN, VT220 Programmer Reference Manual)
abbrev pub filled : Cell → ℕ → ℕ → Origin
filled cell line column = New cell
