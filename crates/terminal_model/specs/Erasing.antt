-- Erasing, and inserting and deleting lines (ECMA-48, 8.3; VT220 manual, erasing).
use Rattle.std.specs.Prelude.{ℕ, ◌+◌, ◌-◌, min, Bool, true, false, ◌&&◌, nat_lt, nat_le, cond, replicate}
use Rattle.cells.specs.Line.{blank, spliced, unprotected_erased}
use Rattle.cells.specs.Page.{line_at, Origin, From, page_from, on_line}
use Rattle.cells.specs.Moves.{is_between, scrolled_up, scrolled_down}
use Rattle.terminal_model.specs.declared.state.State.{State}
use Rattle.terminal_model.specs.declared.action.Part.{Part}
use Rattle.terminal_model.specs.declared.action.Part.TheVariants.{ToEnd, ToStart, All}
use Rattle.terminal_model.specs.Screen.{Page, Screen, line_edited, with_state, with_page}
use Rattle.terminal_model.specs.Motion.{unpending, moved_to}

-- the columns of a part of the cursor's line: the first one, and then the end, which isn't included
abbrev pub first_column : Part → State → ℕ
first_column ToEnd s = s.column
first_column ToStart s = 0
first_column All s = 0

abbrev pub end_column : Part → State → ℕ
end_column ToEnd s = s.columns
end_column ToStart s = s.column + 1
end_column All s = s.columns

-- the lines of a part of the page without the cursor's line, or all lines
abbrev pub first_line : Part → State → ℕ
first_line ToEnd s = s.line + 1
first_line ToStart s = 0
first_line All s = 0

abbrev pub end_line : Part → State → ℕ
end_line ToEnd s = s.rows
end_line ToStart s = s.line
end_line All s = s.rows

-- columns of the cursor's line are blank
abbrev pub line_erased : State → ℕ → ℕ → Page → Page
line_erased s from end page =
    line_edited s (spliced from (replicate (end - from) blank) end s.columns) page

abbrev pub part_erased : State → Part → Page → Page
part_erased s part page = line_erased s (first_column part s) (end_column part s) page

-- columns of the cursor's line are blank, but for protected cells
abbrev pub part_unprotected : State → Part → Page → Page
part_unprotected s part page =
    line_edited s
    (unprotected_erased (line_at page s.line) (first_column part s) (end_column part s)) page

-- lines are blank, but for protected cells
abbrev pub unprotected_lines : Page → ℕ → ℕ → ℕ → ℕ → ℕ → Origin
unprotected_lines page columns first end line column =
    cond (nat_le first line && nat_lt line end)
    (on_line line (unprotected_erased (line_at page line) 0 columns column))
    (From line column)

abbrev pub lines_unprotected : State → Part → Page → Page
lines_unprotected s part page =
    page_from (unprotected_lines page s.columns (first_line part s) (end_line part s)) page

-- INSERTING AND DELETING LINES: within the margins, from the cursor's line to their last line; no
-- line enters the scrollback
abbrev pub is_in_margins : State → Bool
is_in_margins s = is_between s.top s.bottom s.line

abbrev pub lines_inserted : Bool → ℕ → Screen → Screen
lines_inserted true n x =
    let s : State = x.state in
    with_page x (moved_to s s.line 0)
    (page_from (scrolled_down s.line s.bottom (min n (s.bottom + 1 - s.line))) x.page)
lines_inserted false n x = with_state x (unpending x.state)

abbrev pub lines_deleted : Bool → ℕ → Screen → Screen
lines_deleted true n x =
    let s : State = x.state in
    with_page x (moved_to s s.line 0)
    (page_from (scrolled_up s.line s.bottom (min n (s.bottom + 1 - s.line))) x.page)
lines_deleted false n x = with_state x (unpending x.state)
