-- Cells that a terminal can show as they are.
use Rattle.std.specs.Prelude.{◌≡◌, ℕ, suc, ◌<◌, true, false, List, length, IfSome}
use Rattle.cells.specs.declared.cell.Shape.{Shape}
use Rattle.cells.specs.declared.cell.Shape.TheVariants.{Narrow, Left, Right}
use Rattle.cells.specs.declared.marks.Marks.{Marks}
use Rattle.cells.specs.declared.marks.Marks.TheVariants.{Bare, One, Two}
use Rattle.cells.specs.declared.cell.Cell.{Cell}
use Rattle.cells.specs.Line.{cell_at, is_left, is_right, right_cell, unprotected}
use Rattle.cells.specs.Page.{line_at}
use Rattle.control_parser.specs.declared.parser.Func.TheVariants.{Print}
use Rattle.control_parser.specs.Spelling.{IsGiven}
use Rattle.terminal_model.specs.Screen.{Page, Screen}
use Rattle.terminal_model.specs.Printing.{columns_of, drawn}
use Rattle.terminal_model.specs.Places.{place}

-- a character that is printed as itself, in this number of columns (UAX #11)
pub record IsGlyph (width c : ℕ) : Type 0 where
  pub given : IsGiven (Print c)
  pub columns_are : columns_of c ≡ width
  pub stays : drawn c ≡ c

abbrev pub AreMarks : Marks → Type 0
AreMarks Bare = Prim.Unit {0}
AreMarks (One a) = IsGlyph 0 a
AreMarks (Two a b) = IsGlyph 0 a × IsGlyph 0 b

abbrev pub HasGlyph : Shape → ℕ → Type 0
HasGlyph Narrow c = IsGlyph 1 c
HasGlyph Left c = IsGlyph 2 c
HasGlyph Right c = Prim.Unit {0}

pub record IsDrawableCell (cell : Cell) : Type 0 where
  pub glyph : HasGlyph cell.shape cell.character
  pub marks : AreMarks cell.marks

-- a right half has the character and the rendition of its left half
abbrev pub HasHalves : List Cell → Type 0
HasHalves cells =
    (column : ℕ) → is_left (cell_at cells column).shape ≡ true
    → unprotected (cell_at cells (suc column))
    ≡ right_cell (cell_at cells column).character (cell_at cells column).rendition false

abbrev pub HaveHalves : List (List Cell) → Type 0
HaveHalves page = (line : ℕ) → line < length page → HasHalves (line_at page line)

-- each cell can be printed, and a right half has the character and the rendition of its left half
pub record IsDrawableLine (cells : List Cell) : Type 0 where
  pub printed : (column : ℕ) → column < length cells → IsDrawableCell (cell_at cells column)
  pub halves : HasHalves cells

abbrev pub AreDrawableLines : Page → Type 0
AreDrawableLines lines = (n : ℕ) → IsDrawableLine (line_at lines n)

-- each line of the screen and each line that it keeps is drawable; and the cell that the next mark
-- would join is no right half
pub record IsDrawableScreen (x : Screen) : Type 0 where
  pub page : AreDrawableLines x.page
  pub kept : AreDrawableLines x.kept
  pub joined : IfSome x.state.joining (λ p. is_right (place x.page p.line p.column).shape ≡ false)
