-- What the steps of composing do.
use Rattle.std.specs.Prelude.{◌≡◌, ℕ, ◌+◌, ◌≤◌, Bool, true, List, length}
use Rattle.std.specs.Str.{all_scalars}
use Rattle.cells.specs.declared.cell.Cell.{Cell}
use Rattle.cells.specs.Line.{IsPaired}
use Rattle.regions.specs.declared.rect.Rect.{Rect}
use Rattle.regions.specs.declared.rect.Rects.{Rects}
use Rattle.regions.specs.Shapes.{Shape}
use Rattle.terminal_model.specs.Shows.{View}
use Rattle.view.specs.declared.view.Cursor.{Cursor}
use Rattle.view.specs.Drawable.{IsDrawable}
use Rattle.view.specs.Granted.{Part, AreParts, AreDrawable, HasPairedLines, box_piece, separator_piece, status_piece}
use Rattle.view.specs.Granted.{caption_text, cursor_of, pieces, view_of}
use Rattle.view.specs.Rows.{IsBoxRow, IsFree, AreFree, IsPlaced, Lays, FocusesOn, row_of, row_piece}
use Rattle.view.specs.View.{HasSize, place_of}

-- the view has the size of the page of these rectangles, whose last row is the status line
abbrev pub HasPageSize : Rects → View → Type 0
HasPageSize r v = HasSize (r.status.line + 1) r.status.columns v

-- if these are the parts of a page, this is its granted view
abbrev pub ShowsParts : Rects → List Part → List ℕ → View → Type 0
ShowsParts r parts status v =
    (s : Shape) (rows columns : ℕ) → AreParts s rows columns r parts → v ≡ view_of r parts status

-- if these are the parts of a page, and a terminal can show their lines, it can show the view
abbrev pub ShowsDrawable : Rects → List Part → View → Type 0
ShowsDrawable r parts v =
    (s : Shape) (rows columns : ℕ) →
    AreParts s rows columns r parts → AreDrawable parts → IsDrawable v

-- if these are the parts of a page, the rectangle of each piece is free on the view's page
abbrev pub HasFreePieces : Rects → List Part → List ℕ → View → Type 0
HasFreePieces r parts status v =
    (s : Shape) (rows columns : ℕ) →
    AreParts s rows columns r parts → AreFree (pieces r parts status) v.page

-- if the row of the rectangle is free, paired cells, one for each column, are laid over it
abbrev pub LaysRow : Rect → ℕ → List Cell → View → View → Type 0
LaysRow rect row cells old new =
    IsFree (row_of rect row) old.page → IsPaired cells → length cells ≡ rect.columns
    → Lays (row_piece (row_of rect row) cells) old new

-- the cells of a row of a region's box, which is laid over a page
pub record BoxRow (rect : Rect) (is_focused : Bool) (part : Part) (row : ℕ) (old new : View)
    : Type 0 where
  pub cells : List Cell
  pub are_row : IsBoxRow rect is_focused part row cells
  pub lays : Lays (row_piece (row_of rect row) cells) old new

-- if the row of the box is free and the region's lines are paired, the row is laid over it
abbrev pub LaysBoxRow : Rect → Bool → Part → ℕ → View → View → Type 0
LaysBoxRow rect is_focused part row old new =
    HasPairedLines part → IsFree (row_of rect row) old.page
    → BoxRow rect is_focused part row old new

-- if the rectangle is free and the region's lines are paired, the region's box is laid over it
abbrev pub LaysBox : Rect → Bool → Part → View → View → Type 0
LaysBox rect is_focused part old new =
    HasPairedLines part → IsFree rect old.page → Lays (box_piece rect is_focused part) old new

-- if the rectangle is one free column, a separator is laid over it
abbrev pub LaysSeparator : Rect → View → View → Type 0
LaysSeparator rect old new =
    rect.columns ≡ 1 → IsFree rect old.page → Lays (separator_piece rect) old new

-- if the rectangle is one free row, the status line is laid over it
abbrev pub LaysStatus : Rect → List ℕ → View → View → Type 0
LaysStatus rect text old new =
    rect.rows ≡ 1 → IsFree rect old.page → Lays (status_piece rect text) old new

-- the caption consists of Unicode scalar values
abbrev pub HasScalarCaption : Part → Type 0
HasScalarCaption part = all_scalars (caption_text part) ≡ true

-- if the region's box is on the page, the region gets the focus
abbrev pub TakesFocus : Rect → Part → View → View → Type 0
TakesFocus rect part old new = IsPlaced rect old.page → FocusesOn rect part old new

-- if the box lies within 65535 lines and columns, this is the cursor that the region shows when it
-- has the focus
abbrev pub IsCursorOf : Rect → Part → Cursor → Type 0
IsCursorOf rect part cursor =
    rect.line + rect.rows ≤ 65535 → rect.column + rect.columns ≤ 65535
    → place_of cursor ≡ cursor_of rect part
