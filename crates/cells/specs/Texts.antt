-- Characters whose width is known without looking it up (UAX #11), and the cells of text of such characters.
use Rattle.std.specs.Prelude.{◌≡◌, ℕ, ◌-◌, ◌≤◌, Bool, true, ◌&&◌, ◌||◌, ◌==◌, not, nat_lt, cond, List, [], ◌∷◌, ◌++◌}
use Rattle.std.specs.Prelude.{length, take}
use Rattle.std.specs.List.{list_all}
use Rattle.charsets.specs.Text.{text, IsText}
use Rattle.charsets.specs.Units.{is_plain}
use Rattle.cells.specs.declared.cell.Cell.{Cell}
use Rattle.cells.specs.declared.rendition.Rendition.{Rendition}
use Rattle.cells.specs.declared.texts.Put.{Put}
use Rattle.cells.specs.Line.{cell_at, is_left, is_right, left_cell, marked, narrow_cell, right_cell}

-- Characters that take one column each and that no set changes while GL is ASCII: 20 to 7E, Latin
-- letters and signs from A0 on without the soft hyphen, Greek, Cyrillic, Armenian and Hebrew.
abbrev pub is_letter : ℕ → Bool
is_letter c =
    is_plain c || (nat_lt 0x9F c && nat_lt c 0x300 && not (c == 0xAD))
    || (nat_lt 0x36F c && nat_lt c 0x483) || (nat_lt 0x489 c && nat_lt c 0x590)
    || (nat_lt 0x5CF c && nat_lt c 0x5EB)

-- Characters that take two columns each: kana, ideographs, Hangul syllables and emoticons.
abbrev pub is_known_wide : ℕ → Bool
is_known_wide c =
    (nat_lt 0x3040 c && nat_lt c 0x3097) || (nat_lt 0x309F c && nat_lt c 0x3100)
    || (nat_lt 0x33FF c && nat_lt c 0xA000) || (nat_lt 0xABFF c && nat_lt c 0xD7A4)
    || (nat_lt 0x1F5FF c && nat_lt c 0x1F650)

-- Marks that take no column: combining diacritical marks and Hebrew points.
abbrev pub is_mark : ℕ → Bool
is_mark c =
    (nat_lt 0x2FF c && nat_lt c 0x370 && not (c == 0x338)) || (nat_lt 0x590 c && nat_lt c 0x5BE)

-- a character that takes cells of its own
abbrev pub is_base : ℕ → Bool
is_base c = is_letter c || is_known_wide c

-- such a character, or a mark that joins the one before it
abbrev pub is_base_or_mark : ℕ → Bool
is_base_or_mark c = is_base c || is_mark c

-- characters and marks, of which the first one is no mark
abbrev pub is_based : List ℕ → Bool
is_based [] = true
is_based (c ∷ cs) = is_base c && list_all is_base_or_mark cs

-- the first cell of a character
abbrev pub base_cell : ℕ → Rendition → Bool → Cell
base_cell c rendition is_protected =
    cond (is_known_wide c) (left_cell c rendition is_protected) (narrow_cell c rendition is_protected)

-- the cells of a character by its first one: a left half has the right one behind it
abbrev pub whole : Cell → List Cell
whole cell =
    cell ∷ cond (is_left cell.shape) (right_cell cell.character cell.rendition cell.is_protected ∷ []) []

-- a first cell and the characters behind it: a mark joins the cell, and any other character has cells of its own
abbrev pub cells_on : Rendition → Bool → Cell → List ℕ → List Cell
cells_on rendition is_protected cell [] = whole cell
cells_on rendition is_protected cell (c ∷ cs) =
    cond (is_mark c) (cells_on rendition is_protected (marked cell c) cs)
    (whole cell ++ cells_on rendition is_protected (base_cell c rendition is_protected) cs)

-- the cells of text
abbrev pub text_cells : List ℕ → Rendition → Bool → List Cell
text_cells [] rendition is_protected = []
text_cells (c ∷ cs) rendition is_protected =
    cells_on rendition is_protected (base_cell c rendition is_protected) cs

-- the columns of the last character of some cells: 2 if the last cell is a right half
abbrev pub last_columns : List Cell → ℕ
last_columns cells = cond (is_right (cell_at cells (length cells - 1)).shape) 2 1

-- what was put: the text of the first `read` bytes, in `count` columns of at most `room`, of which the last
-- character has `last`
pub record PutsText (bytes : List ℕ) (rendition : Rendition) (is_protected : Bool) (room : ℕ) (put : Put) : Type 0 where
  pub few : put.read ≤ length bytes
  pub is_text : IsText (take put.read bytes)
  pub based : is_based (text (take put.read bytes)) ≡ true
  pub count : length (text_cells (text (take put.read bytes)) rendition is_protected) ≡ put.count
  pub last : last_columns (text_cells (text (take put.read bytes)) rendition is_protected) ≡ put.last
  pub inside : put.count ≤ room
