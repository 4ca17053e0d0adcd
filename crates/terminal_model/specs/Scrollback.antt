-- The lines that leave a page at the top. A scrollback keeps the last ones of them (GNU Screen
-- manual, "Scrollback").
use Rattle.std.specs.Prelude.{◌≡◌, ℕ, zero, suc, ◌==◌, Bool, false, ◌&&◌, ◌||◌, cond, List, [], ◌∷◌}
use Rattle.std.specs.Prelude.{◌++◌, length, map, take, reverse, Option, Some, None}
use Rattle.std.specs.List.{flat_map}
use Rattle.charsets.specs.Shifts.{mapped}
use Rattle.cells.specs.Page.{line_at}
use Rattle.cells.specs.Resizing.{line_resized}
use Rattle.control_parser.specs.declared.parser.Func.{Func}
use Rattle.terminal_model.specs.declared.state.State.{State}
use Rattle.terminal_model.specs.declared.action.Action.{Action}
use Rattle.terminal_model.specs.declared.action.Action.TheVariants.{Print, LineFeed, Index, NextLine}
use Rattle.terminal_model.specs.Screen.{Page, Screen}
use Rattle.terminal_model.specs.Functions.{actions_of}
use Rattle.terminal_model.specs.Printing.{lacks_room, columns_of}
use Rattle.terminal_model.specs.Table.{acted}
use Rattle.terminal_model.specs.Reading.{Terminal, Act}
use Rattle.terminal_model.specs.Writing.{Writing, Size, writes}

-- the line that index pushes out: the page's first line, if the margins begin with it and the
-- cursor is in their last line
abbrev pub indexed_out : Screen → Page
indexed_out x =
    cond ((x.state.line == x.state.bottom) && (x.state.top == 0)) (line_at x.page 0 ∷ []) []

-- a character of this width goes to the next line first: a wrap is pending, or it is wide and has
-- no room (VT220 manual: DECAWM)
abbrev pub is_wrapped : ℕ → State → Bool
is_wrapped zero s = false
is_wrapped (suc zero) s = s.is_wrap_pending
is_wrapped (suc (suc more)) s = s.is_wrap_pending || (lacks_room s && s.modes.wraps)

abbrev pub printed_out : Option ℕ → Screen → Page
printed_out None x = []
printed_out (Some c) x = cond (is_wrapped (columns_of c) x.state) (indexed_out x) []

-- the line that an action pushes out: only index and wraps do
abbrev pub acted_out : Screen → Action → Page
acted_out x (Print u) = printed_out (mapped x.state.shifts u) x
acted_out x LineFeed = indexed_out x
acted_out x Index = indexed_out x
acted_out x NextLine = indexed_out x
acted_out x other = []

abbrev pub all_acted_out : Screen → List Action → Page
all_acted_out x [] = []
all_acted_out x (a ∷ later) = acted_out x a ++ all_acted_out (acted x a) later

-- the lines that a function pushes out; those that functions push out, in their order
abbrev pub lines_out : Screen → Func → Page
lines_out x f = all_acted_out x (actions_of f)

abbrev pub lines_of : List Act → Page
lines_of acts = flat_map (λ a. lines_out a.before a.func) acts

-- ALL LINES that have left after a window's writing, from those that had left before; a change of
-- size cuts or fills up each of them.
abbrev pub left_by_writing : Page → Terminal → Writing → Page
left_by_writing lines t (Size rows columns) = map (line_resized columns) lines
left_by_writing lines t w = lines ++ lines_of (writes t w).acts

abbrev pub all_left : Page → Terminal → List Writing → Page
all_left lines t [] = lines
all_left lines t (w ∷ later) = all_left (left_by_writing lines t w) (writes t w).terminal later

-- a screen keeps the last ones of these lines, newest first
abbrev pub KeepsLast : Page → Screen → Type 0
KeepsLast lines x = x.kept ≡ take x.keep (reverse lines)

-- The page moved back by a number of kept lines, or by all of them if they are fewer. It has the
-- page's size: first the newest kept lines, oldest first, and then the page's lines (own).
abbrev pub moved_back : ℕ → Screen → Page
moved_back offset x = take (length x.page) (reverse (take offset x.kept) ++ x.page)
