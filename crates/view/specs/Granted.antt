-- What a client is granted to see, place by place. Lines and columns count from 0.
use Rattle.std.specs.Prelude.{◌≡◌, ℕ, ◌+◌, ◌-◌, ◌<◌, Bool, true, false, not, ◌&&◌, ◌==◌, nat_lt}
use Rattle.std.specs.Prelude.{if◌then◌else◌, List, [], ◌∷◌, ◌++◌, length, map, slice_index_or}
use Rattle.std.specs.Prelude.{chars, codes, decimal, Option, Some, None, option_map}
use Rattle.std.specs.List.{range_with_len}
use Rattle.std.specs.Str.Lossy.{utf8_lossy}
use Prim.Native.Char.{code}
use Rattle.cells.specs.declared.cell.Cell.{Cell}
use Rattle.cells.specs.declared.rendition.Rendition.{Rendition}
use Rattle.cells.specs.Line.{blank, plain, narrow_cell, cell_at, IsPaired}
use Rattle.cells.specs.Page.{line_at}
use Rattle.regions.specs.declared.rect.Rect.{Rect}
use Rattle.regions.specs.declared.rect.Rects.{Rects}
use Rattle.regions.specs.Shapes.{Shape}
use Rattle.regions.specs.Pages.{IsRects, has_room, has}
use Rattle.terminal_model.specs.declared.state.Position.{Position}
use Rattle.terminal_model.specs.Shows.{View}
use Rattle.terminal_model.specs.Drawable.{IsDrawableLine}
use Rattle.view.specs.declared.view.Pane.{Pane}
use Rattle.view.specs.declared.view.Pane.TheVariants.{Empty, Hidden, Readable}
use Rattle.view.specs.declared.view.Contents.{Contents}
use Rattle.view.specs.declared.view.KeyModes.{KeyModes}
use Rattle.view.specs.Texts.{uncut, text_at}

-- ---- what stands in a region

-- A window that the client's user may read: its number, the characters of its title, the lines of
-- its page or of the page moved back, its cursor (none if the page is moved back), and its modes
-- DECTCEM, DECSCNM, DECCKM and DECKPAM.
pub record Window : Type 0 where
  pub number : ℕ
  pub title : List ℕ
  pub lines : List (List Cell)
  pub cursor : Option Position
  pub shows_cursor : Bool
  pub is_inverted : Bool
  pub has_application_arrows : Bool
  pub has_application_keypad : Bool

-- what a region shows: nothing, a window of this number that the user may not read, or one that the
-- user may read
pub data Part : Type 0 where
  vacant : Part
  unread : ℕ → Part
  read : Window → Part

abbrev pub window_of : Contents → Window
window_of c = record {
  number = c.number;
  title = chars c.title.now;
  lines = map (λ line. line.now) c.lines.now;
  cursor = option_map (λ place. record { line = place.0; column = place.1 }) c.cursor;
  shows_cursor = c.shows_cursor;
  is_inverted = c.is_inverted;
  has_application_arrows = c.modes.has_application_arrows;
  has_application_keypad = c.modes.has_application_keypad;
}

abbrev pub part_of : Pane → Part
part_of Empty = vacant
part_of (Hidden number) = unread number
part_of (Readable contents) = read (window_of contents)

abbrev pub parts_of : List Pane → List Part
parts_of panes = map part_of panes

-- ---- a region's box: the lines of its window, and its caption in the last row

-- the first of a window's lines that n rows show, such that the cursor's line is among them
abbrev pub first_shown : ℕ → Option Position → ℕ
first_shown rows None = 0
first_shown rows (Some p) = p.line - (rows - 1)

-- a rendition as it is shown: if the window's screen is reversed (DECSCNM), reverse is inverted
abbrev pub shown_rendition : Bool → Rendition → Rendition
shown_rendition is_inverted r =
    record r { is_reversed = if is_inverted then not r.is_reversed else r.is_reversed }

-- a cell as it is shown: in that rendition, and without protection
abbrev pub shown_cell : Bool → Cell → Cell
shown_cell is_inverted cell = record cell {
  is_protected = false;
  rendition = shown_rendition is_inverted cell.rendition;
}

-- what one of n columns shows of a line; a blank outside of the window, and in place of a wide
-- character of which only half has room
abbrev pub line_cell : Bool → List Cell → ℕ → ℕ → Cell
line_cell is_inverted line columns column =
    if nat_lt column (length line)
    then uncut columns column (shown_cell is_inverted (cell_at line column)) blank
    else blank

abbrev pub window_cell : Window → ℕ → ℕ → ℕ → ℕ → Cell
window_cell w rows columns row column =
    line_cell w.is_inverted (line_at w.lines (first_shown rows w.cursor + row)) columns column

-- What a place of a region shows. Of a window that may not be read, nothing is shown but its
-- number.
abbrev pub part_cell : Part → ℕ → ℕ → ℕ → ℕ → Cell
part_cell vacant rows columns row column = blank
part_cell (unread number) rows columns row column = blank
part_cell (read w) rows columns row column = window_cell w rows columns row column

-- the number, one blank, the title; `?` instead of a title that may not be read; `--` if there is
-- no window
abbrev pub caption_text : Part → List ℕ
caption_text vacant = codes "--"
caption_text (unread number) = decimal number ++ codes " ?"
caption_text (read w) = decimal w.number ++ (code " " ∷ w.title)

abbrev pub reverse : Rendition
reverse = record plain { is_reversed = true }

-- reverse; also bold if the region has the focus
abbrev pub caption_rendition : Bool → Rendition
caption_rendition is_focused = record reverse { is_bold = is_focused }

-- one of the n columns of a caption
abbrev pub caption_cell : Bool → Part → ℕ → ℕ → Cell
caption_cell is_focused part columns column =
    text_at (caption_rendition is_focused) (caption_text part) columns column

abbrev pub box_cell : Rect → Bool → Part → ℕ → ℕ → Cell
box_cell box is_focused part row column =
    if row + 1 == box.rows then caption_cell is_focused part box.columns column
    else part_cell part (box.rows - 1) box.columns row column

-- ---- the pieces of a page

-- a rectangle, and the cells of its rows and columns
pub record Piece : Type 0 where
  pub rect : Rect
  pub cell : ℕ → ℕ → Cell

-- the boxes of the regions, the separators between them, the index of the focused region's box, and
-- the status line
pub record Layout : Type 0 where
  pub boxes : List Rect
  pub separators : List Rect
  pub focus : ℕ
  pub status : Rect

abbrev pub layout_of : Rects → Layout
layout_of r = record {
  boxes = r.boxes.items;
  separators = r.separators.items;
  focus = r.focus;
  status = r.status;
}

abbrev pub box_in : Layout → ℕ → Rect
box_in l n = slice_index_or l.boxes n l.status

abbrev pub box_at : Rects → ℕ → Rect
box_at r n = box_in (layout_of r) n

abbrev pub part_at : List Part → ℕ → Part
part_at parts n = slice_index_or parts n vacant

-- the box of a region, which has the focus or not
abbrev pub box_piece : Rect → Bool → Part → Piece
box_piece rect is_focused part = record { rect = rect; cell = box_cell rect is_focused part }

abbrev pub region_in : Layout → List Part → ℕ → Piece
region_in l parts n = box_piece (box_in l n) (n == l.focus) (part_at parts n)

abbrev pub region_piece : Rects → List Part → ℕ → Piece
region_piece r parts n = region_in (layout_of r) parts n

abbrev pub separator_piece : Rect → Piece
separator_piece rect = record { rect = rect; cell = λ row column. narrow_cell 0x7C reverse false }

-- the text of the status line, in the plain rendition; U+FFFD stands for each maximal part that
-- isn't UTF-8 (Unicode core specification, 3.9)
abbrev pub status_piece : Rect → List ℕ → Piece
status_piece rect text = record {
  rect = rect;
  cell = λ row column. text_at plain (chars (utf8_lossy text)) rect.columns column;
}

abbrev pub pieces_in : Layout → List Part → List ℕ → List Piece
pieces_in l parts status =
    map (region_in l parts) (range_with_len 0 (length l.boxes))
    ++ (map separator_piece l.separators ++ (status_piece l.status status ∷ []))

abbrev pub pieces : Rects → List Part → List ℕ → List Piece
pieces r parts status = pieces_in (layout_of r) parts status

-- the cell of a piece at one of its places on the page
abbrev pub cell_in : Piece → ℕ → ℕ → Cell
cell_in p line column = p.cell (line - p.rect.line) (column - p.rect.column)

-- the cell of the first piece that has the place; a blank if none has it
abbrev pub cell_of : List Piece → ℕ → ℕ → Cell
cell_of [] line column = blank
cell_of (p ∷ ps) line column =
    if has p.rect line column then cell_in p line column else cell_of ps line column

-- ---- the view

abbrev pub page_of : ℕ → ℕ → (ℕ → ℕ → Cell) → List (List Cell)
page_of rows columns cell =
    map (λ line. map (cell line) (range_with_len 0 columns)) (range_with_len 0 rows)

-- The place of the cursor of a window that may be read, if the cursor's mode shows it and the place
-- lies in the region.
abbrev pub cursor_in : Rect → Window → Option Position → Option Position
cursor_in box w None = None
cursor_in box w (Some p) =
    let row : ℕ = p.line - first_shown (box.rows - 1) w.cursor in
    if w.shows_cursor && (nat_lt row (box.rows - 1) && nat_lt p.column box.columns)
    then Some (record { line = box.line + row; column = box.column + p.column }) else None

abbrev pub cursor_of : Rect → Part → Option Position
cursor_of box vacant = None
cursor_of box (unread number) = None
cursor_of box (read w) = cursor_in box w w.cursor

-- The modes of the keyboard are those of the focused window, if it may be read; else those with
-- which a terminal starts.
abbrev pub arrows_of : Part → Bool
arrows_of vacant = false
arrows_of (unread number) = false
arrows_of (read w) = w.has_application_arrows

abbrev pub keypad_of : Part → Bool
keypad_of vacant = false
keypad_of (unread number) = false
keypad_of (read w) = w.has_application_keypad

abbrev pub key_modes_of : Part → KeyModes
key_modes_of part = record {
  has_application_arrows = arrows_of part;
  has_application_keypad = keypad_of part;
}

-- the page, its status line included, which is its last row
abbrev pub page_in : Layout → List Piece → List (List Cell)
page_in l ps = page_of (l.status.line + 1) l.status.columns (cell_of ps)

unfoldable pub view_in : Layout → List Part → List ℕ → View
view_in l parts status = record {
  page = page_in l (pieces_in l parts status);
  cursor = cursor_of (box_in l l.focus) (part_at parts l.focus);
  has_application_arrows = arrows_of (part_at parts l.focus);
  has_application_keypad = keypad_of (part_at parts l.focus);
}

abbrev pub view_of : Rects → List Part → List ℕ → View
view_of r parts status = view_in (layout_of r) parts status

-- ---- what a view is made of

-- what holds of each line
abbrev pub EachLine : (List Cell → Type 0) → List (List Cell) → Type 0
EachLine Is lines = (line : ℕ) → line < length lines → Is (line_at lines line)

abbrev pub HasPairedLines : Part → Type 0
HasPairedLines vacant = Prim.Unit {0}
HasPairedLines (unread number) = Prim.Unit {0}
HasPairedLines (read w) = EachLine IsPaired w.lines

-- what a view is made of: the rectangles of a page on which each region has room, one part for each
-- region, and lines in which the halves of wide characters are paired
pub record AreParts (s : Shape) (rows columns : ℕ) (r : Rects) (parts : List Part) : Type 0 where
  pub rects : IsRects s r.focus rows columns r
  pub room : has_room s rows columns ≡ true
  pub focus : r.focus < length r.boxes.items
  pub each : length parts ≡ length r.boxes.items
  pub paired : (n : ℕ) → HasPairedLines (part_at parts n)

abbrev pub HasDrawableLines : Part → Type 0
HasDrawableLines vacant = Prim.Unit {0}
HasDrawableLines (unread number) = Prim.Unit {0}
HasDrawableLines (read w) = EachLine IsDrawableLine w.lines

-- a terminal can show the lines of the windows that may be read
abbrev pub AreDrawable : List Part → Type 0
AreDrawable parts = (n : ℕ) → HasDrawableLines (part_at parts n)
