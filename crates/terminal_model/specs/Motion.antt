-- Motion: the pending wrap and the joining of marks, index, tab stops, cursor motion and margins
-- (ECMA-48, fifth edition; VT220 Programmer Reference Manual, chapter 4). Lines and columns count
-- from 0. "Own" marks a choice of this project.
use Rattle.std.specs.Prelude.{ℕ, ◌+◌, ◌-◌, ◌==◌, min, max, Bool, true, false, not, ◌&&◌, nat_le}
use Rattle.std.specs.Prelude.{cond, List, drop, Option, Some, None}
use Rattle.std.specs.List.{prefix_len}
use Rattle.cells.specs.Page.{line_at, page_from}
use Rattle.cells.specs.Moves.{scrolled_up, scrolled_down}
use Rattle.terminal_model.specs.declared.state.State.{State}
use Rattle.terminal_model.specs.Screen.{Page, Screen, with_newest, with_page}

-- PENDING WRAP AND JOINING. Every function but print, SGR, the shifts and the designations clears
-- the pending wrap, and every function but print ends the joining of marks (own).

-- no cell is there for marks to join
abbrev pub unjoined : State → State
unjoined s = record s { joining = None }

-- no cell is there for marks to join, and no wrap is pending
abbrev pub unpending : State → State
unpending s = record s { is_wrap_pending = false; joining = None }

-- the cursor goes to a place; no cell is there for marks to join, and no wrap is pending
abbrev pub moved_to : State → ℕ → ℕ → State
moved_to s line column =
    record s { line = line; column = column; is_wrap_pending = false; joining = None }

-- home: the first place of the page, or that of the margins if ?6 is set
abbrev pub home : State → State
home s = moved_to s (cond s.modes.counts_from_margin s.top 0) 0

abbrev pub whole_margins : State → State
whole_margins s = record s { top = 0; bottom = s.rows - 1 }

-- INDEX: in the last line of the margins, the lines of the margins go up by one; elsewhere the
-- cursor goes down, within the page. A line that leaves at the first line of the page enters the
-- scrollback (own).
abbrev pub line_below : State → ℕ
line_below s = cond (s.line == s.bottom) s.line (min (s.line + 1) (s.rows - 1))

abbrev pub scrolled_page : Bool → State → Page → Page
scrolled_page true s page = page_from (scrolled_up s.top s.bottom 1) page
scrolled_page false s page = page

abbrev pub scrolled_kept : Bool → ℕ → Page → Page → Page
scrolled_kept true keep page kept = with_newest keep (line_at page 0) kept
scrolled_kept false keep page kept = kept

abbrev pub indexed : Screen → Screen
indexed x =
    let s : State = x.state in
    record x {
      state = moved_to s (line_below s) s.column;
      page = scrolled_page (s.line == s.bottom) s x.page;
      kept = scrolled_kept ((s.line == s.bottom) && (s.top == 0)) x.keep x.page x.kept;
    }

-- REVERSE INDEX: in the first line of the margins, the lines of the margins go down by one;
-- elsewhere the cursor goes up, within the page
abbrev pub line_above : State → ℕ
line_above s = cond (s.line == s.top) s.line (s.line - 1)

abbrev pub lowered_page : Bool → State → Page → Page
lowered_page true s page = page_from (scrolled_down s.top s.bottom 1) page
lowered_page false s page = page

abbrev pub reverse_indexed : Screen → Screen
reverse_indexed x =
    let s : State = x.state in
    with_page x (moved_to s (line_above s) s.column) (lowered_page (s.line == s.top) s x.page)

-- TABS

-- the first stop after a column, or else the last column
abbrev pub next_stop : List Bool → ℕ → ℕ → ℕ
next_stop tabs columns column =
    min (column + 1 + prefix_len not (drop (column + 1) tabs)) (columns - 1)

-- CURSOR MOTION

-- upwards: from within or below the margins at most to their first line, else at most to the page's
abbrev pub line_up : State → ℕ → ℕ
line_up s n = max (s.line - n) (cond (nat_le s.top s.line) s.top 0)

-- downwards: from within or above the margins at most to their last line, else at most to the
-- page's
abbrev pub line_down : State → ℕ → ℕ
line_down s n = min (s.line + n) (cond (nat_le s.line s.bottom) s.bottom (s.rows - 1))

-- a line that is given counts from the margins if ?6 is set
abbrev pub line_named : State → ℕ → ℕ
line_named s line =
    cond s.modes.counts_from_margin (min (s.top + line) s.bottom) (min line (s.rows - 1))

-- MARGINS

abbrev pub bottom_of : ℕ → Option ℕ → ℕ
bottom_of rows None = rows - 1
bottom_of rows (Some bottom) = min bottom (rows - 1)

-- margins of fewer than two lines are ignored
abbrev pub margins_or_none : Bool → ℕ → ℕ → State → State
margins_or_none true top bottom s = home (record s { top = top; bottom = bottom })
margins_or_none false top bottom s = s
