-- What the steps of a frame do: the pen goes from one place to another, and bytes are appended.
use Rattle.std.specs.Prelude.{◌≡◌, ℕ, ◌+◌, ◌<◌, ◌≤◌, Bool, false, List, length, Some, IfSome}
use Rattle.std.specs.declared.vec.Vec.{Vec}
use Rattle.std.specs.declared.alloc.Global.{Global}
use Rattle.cells.specs.declared.cell.Cell.{Cell}
use Rattle.cells.specs.declared.rendition.Rendition.{Rendition}
use Rattle.cells.specs.Line.{blank, cell_at, is_right}
use Rattle.cells.specs.Page.{line_at}
use Rattle.terminal_model.specs.Screen.{Page, Screen, IsInside}
use Rattle.terminal_model.specs.Shows.{View}
use Rattle.terminal_model.specs.Drawing.{Differs}
use Rattle.terminal_model.specs.Drawable.{IsDrawableCell, HaveHalves}
use Rattle.view.specs.declared.view.Cursor.{Cursor}
use Rattle.view.specs.declared.view.KeyModes.{KeyModes}
use Rattle.view.specs.Drawable.{IsDrawable}
use Rattle.view.specs.View.{place_of}
use Rattle.redraw.specs.declared.pen.Pen.{Pen}
use Rattle.redraw.specs.Drawing.{Drawing, Takes, Keeps, Writes, Stands, width_of, row_of, AreLines, DrawsPiece}
use Rattle.redraw.specs.Drawing.{DrawsUpTo, HasPage, DrawsPage, Stage, Final, HasView, ShowsView}

-- the bytes of a frame
abbrev pub Bytes : Type 0
Bytes = Vec ℕ Global

-- ---- the pen

-- a pen at a place, with a known rendition
abbrev pub aimed_at : ℕ → ℕ → Rendition → Pen
aimed_at line column r = record { line = Some line; column = Some column; rendition = Some r }

-- If the page has the place, the pen moves there; what is seen is unchanged.
abbrev pub MovesTo : ℕ → ℕ → Pen → Pen → Bytes → Bytes → Type 0
MovesTo line column p q before after =
    (old new : Page) (rows columns : ℕ)
    → line < rows → rows < 9999 → column < columns → columns < 9999
    → Takes old new (Drawing rows columns p) (Keeps rows columns q) before.items after.items

-- The pen takes up a rendition; what is seen is unchanged.
abbrev pub Renders : Pen → Pen → Bytes → Bytes → Type 0
Renders p q before after =
    (old new : Page) (rows columns : ℕ)
    → Takes old new (Drawing rows columns p) (Keeps rows columns q) before.items after.items

-- A cell of the new page is printed at a place at which the pages differ, in a page with this
-- number of columns.
abbrev pub PutsCell : ℕ → ℕ → ℕ → Cell → Pen → Pen → Bytes → Bytes → Type 0
PutsCell line column columns cell p q before after =
    (old new : Page) (rows : ℕ)
    → line < rows → rows < 9999 → column + width_of cell.shape ≤ columns → columns < 9999
    → IsDrawableCell cell → is_right cell.shape ≡ false
    → Stands new line column cell → Differs old new line column
    → Takes old new (Drawing rows columns p)
    (Writes rows columns q line column (width_of cell.shape) (row_of cell column))
    before.items after.items

-- If the page has these columns, they are erased: `count` columns from a place on.
abbrev pub Erases : ℕ → ℕ → ℕ → Pen → Pen → Bytes → Bytes → Type 0
Erases line column count p q before after =
    (old new : Page) (rows columns : ℕ)
    → line < rows → rows < 9999 → 0 < count → column + count ≤ columns → columns < 9999
    → Takes old new (Drawing rows columns p)
    (Writes rows columns q line column count (λ c. blank)) before.items after.items

-- If the page has columns from this place on, they are erased, to the end of the line.
abbrev pub ErasesToEnd : ℕ → ℕ → Pen → Pen → Bytes → Bytes → Type 0
ErasesToEnd line column p q before after =
    (old new : Page) (rows columns n : ℕ)
    → line < rows → rows < 9999 → 0 < n → column + n ≡ columns → columns < 9999
    → Takes old new (Drawing rows columns p)
    (Writes rows columns q line column n (λ c. blank)) before.items after.items

-- ---- lines and pages

-- A piece of a line is drawn: from a column at which the pages differ and which has no right half,
-- to the column before `next`.
abbrev pub PutsPiece : ℕ → List Cell → ℕ → ℕ → Pen → Pen → Bytes → Bytes → Type 0
PutsPiece line cells column next p q before after =
    (old new : Page) (rows : ℕ) (a : List Cell)
    → line < rows → rows < 9999 → AreLines old new line a cells
    → is_right (cell_at cells column).shape ≡ false → Differs old new line column
    → DrawsPiece old new rows (length cells) p q line column next before.items after.items

-- A line of the new page is drawn over the line of the old page.
abbrev pub PutsLine : ℕ → List Cell → List Cell → Pen → Pen → Bytes → Bytes → Type 0
PutsLine line a b p q before after =
    (old new : Page) (rows : ℕ) → line < rows → rows < 9999 → AreLines old new line a b
    → DrawsUpTo old new rows (length b) p q line (length b) before.items after.items

-- A view's page is drawn over the page of another view.
abbrev pub PutsPage : View → View → Pen → Pen → Bytes → Bytes → Type 0
PutsPage old new p q before after =
    let rows : ℕ = length new.page in
    let columns : ℕ = length (line_at new.page 0) in
    HaveHalves old.page → IsDrawable new
    → Takes old.page new.page (HasPage rows columns p old.page)
    (DrawsPage rows columns q old.page new.page rows) before.items after.items

-- ---- modes and the cursor

-- the screen shows a page, and has these modes of the keyboard
abbrev pub HasModes : ℕ → ℕ → Pen → Page → KeyModes → Bool → Screen → Type 0
HasModes rows columns pen page modes shows =
    Stage rows columns pen page modes.has_application_arrows modes.has_application_keypad shows

-- The modes of the keyboard are set, whatever page is shown.
abbrev pub SetsModes : KeyModes → KeyModes → Bytes → Bytes → Type 0
SetsModes was is before after =
    (old new page : Page) (rows columns : ℕ) (pen : Pen) (shows : Bool)
    → Takes old new (HasModes rows columns pen page was shows)
    (λ x y. HasModes rows columns pen page is shows y) before.items after.items

-- The cursor is shown at its place, if the page has it, or is hidden.
abbrev pub PutsCursor : Bool → Cursor → Pen → Pen → Bytes → Bytes → Type 0
PutsCursor was_shown cursor p q before after =
    (old new page : Page) (rows columns : ℕ) (arrows keypad : Bool)
    → rows < 9999 → columns < 9999
    → IfSome (place_of cursor) (λ k. IsInside rows columns k.line k.column)
    → Takes old new (Stage rows columns p page arrows keypad was_shown)
    (λ x y. Final rows columns q page arrows keypad (place_of cursor) y)
    before.items after.items

-- A view is drawn over the page and the modes of another view.
abbrev pub PutsView : View → Bool → View → Pen → Pen → Bytes → Bytes → Type 0
PutsView old was_shown new p q before after =
    let rows : ℕ = length new.page in
    let columns : ℕ = length (line_at new.page 0) in
    HaveHalves old.page → IsDrawable new
    → Takes old.page new.page (HasView rows columns p old was_shown)
    (λ x y. ShowsView rows columns q new y) before.items after.items
