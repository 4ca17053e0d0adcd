-- What printing a character does (VT220 manual, chapter 4; UAX #11). "Own" marks a choice of this
-- project.
use Rattle.std.specs.Prelude.{ℕ, zero, suc, ◌+◌, ◌-◌, ◌==◌, Bool, true, false, ◌&&◌, nat_lt, cond}
use Rattle.std.specs.Prelude.{List, [], ◌∷◌, length, Option, Some, None}
use Rattle.unicode_width.specs.Width.{char_width}
use Rattle.cells.specs.declared.cell.Cell.{Cell}
use Rattle.cells.specs.Glyph.{drawn_as, glyph_columns}
use Rattle.cells.specs.Line.{narrow_cell, left_cell, right_cell, spliced}
use Rattle.cells.specs.Page.{page_marked}
use Rattle.terminal_model.specs.declared.state.Position.{Position}
use Rattle.terminal_model.specs.declared.state.State.{State}
use Rattle.terminal_model.specs.Screen.{Screen, line_edited, with_state, with_page}
use Rattle.terminal_model.specs.Motion.{unjoined, moved_to, indexed}

-- the cursor after this number of printed columns; after the last column the wrap is pending if ?7
-- is set
abbrev pub advanced : State → ℕ → State
advanced s width =
    let fits : Bool = nat_lt (s.column + width) s.columns in
    record s {
      column = cond fits (s.column + width) (s.columns - 1);
      is_wrap_pending = cond fits false s.modes.wraps;
      joining = Some (record { line = s.line; column = s.column });
    }

-- the column whose old cell follows the new ones: the cursor's if IRM is set (ECMA-48, 7.2.10),
-- else the column after the new cells
abbrev pub following : State → ℕ → ℕ
following s width = cond s.modes.inserts s.column (s.column + width)

-- new cells from the cursor on
abbrev pub placed : List Cell → Screen → Screen
placed fresh x =
    let s : State = x.state in
    with_page x (advanced s (length fresh))
    (line_edited s (spliced s.column fresh (following s (length fresh)) s.columns) x.page)

abbrev pub placed_narrow : ℕ → Screen → Screen
placed_narrow c x = placed (narrow_cell c x.state.rendition x.state.is_protecting ∷ []) x

abbrev pub placed_wide : ℕ → Screen → Screen
placed_wide c x =
    placed (left_cell c x.state.rendition x.state.is_protecting
    ∷ right_cell c x.state.rendition x.state.is_protecting ∷ []) x

-- the wrap: the first column, and index
abbrev pub wrapped : Bool → Screen → Screen
wrapped true x = indexed (with_state x (moved_to x.state x.state.line 0))
wrapped false x = x

-- a wide character has no room in the last column
abbrev pub lacks_room : State → Bool
lacks_room s = s.column + 1 == s.columns

-- a wide character without room isn't printed, and ends the joining of marks (own)
abbrev pub wide_or_none : Bool → ℕ → Screen → Screen
wide_or_none true c x = with_state x (unjoined x.state)
wide_or_none false c x = placed_wide c x

-- a wide character without room goes to the next line if ?7 is set
abbrev pub wide_printed : ℕ → Screen → Screen
wide_printed c x =
    let w : Screen = wrapped (lacks_room x.state && x.state.modes.wraps) x in
    wide_or_none (lacks_room w.state) c w

-- a mark joins the cell that was printed last, if nothing came in between and the cell has fewer
-- than two marks; otherwise it is dropped (Unicode core specification, 5.13)
abbrev pub marked_at : Option Position → ℕ → Screen → Screen
marked_at None c x = x
marked_at (Some p) c x = record x { page = page_marked p.line p.column c x.page }

-- a character by its width: 0 is a mark, 2 is wide; a pending wrap is performed first (VT220
-- manual: DECAWM)
abbrev pub printed_as : ℕ → ℕ → Screen → Screen
printed_as zero c x = marked_at x.state.joining c x
printed_as (suc zero) c x = placed_narrow c (wrapped x.state.is_wrap_pending x)
printed_as (suc (suc more)) c x = wide_printed c (wrapped x.state.is_wrap_pending x)

-- the number of columns of a character, and what is drawn for it (UAX #11)
unfoldable pub columns_of : ℕ → ℕ
columns_of c = glyph_columns (char_width false c)

unfoldable pub drawn : ℕ → ℕ
drawn c = drawn_as (char_width false c) c

abbrev pub printed : Option ℕ → Screen → Screen
printed None x = x
printed (Some c) x = printed_as (columns_of c) (drawn c) x
