-- The screen table: what each action does to a screen (ECMA-48, fifth edition; VT220 Programmer
-- Reference Manual, chapter 4). "Own" marks a choice of this project.
use Rattle.std.specs.Prelude.{◌+◌, ◌-◌, min, true, false, nat_lt, cond, List, [], ◌∷◌, replicate, slice_set, Some, None}
use Rattle.charsets.specs.Shifts.{designated, shifted, mapped, spent}
use Rattle.cells.specs.Line.{blank, plain, narrow_cell, spliced}
use Rattle.cells.specs.Page.{page_from}
use Rattle.cells.specs.Moves.{erased_lines, filled}
use Rattle.control_parser.specs.declared.parser.Func.{Func}
use Rattle.terminal_model.specs.declared.state.State.{State}
use Rattle.terminal_model.specs.declared.action.Action.{Action}
use Rattle.terminal_model.specs.declared.action.Action.TheVariants.{Print, Backspace, Tab, LineFeed, CarriageReturn}
use Rattle.terminal_model.specs.declared.action.Action.TheVariants.{Shift, Designate, SetCoding, Index, NextLine}
use Rattle.terminal_model.specs.declared.action.Action.TheVariants.{ReverseIndex, SetTab, Save, Restore}
use Rattle.terminal_model.specs.declared.action.Action.TheVariants.{SetEightBitReports, SetApplicationKeypad, Reset}
use Rattle.terminal_model.specs.declared.action.Action.TheVariants.{Align, Up, Down, Right, Left, MoveTo, SetMargins}
use Rattle.terminal_model.specs.declared.action.Action.TheVariants.{ClearTab, ClearTabs, EraseInPage, EraseInLine}
use Rattle.terminal_model.specs.declared.action.Action.TheVariants.{EraseCells, EraseUnprotectedInPage}
use Rattle.terminal_model.specs.declared.action.Action.TheVariants.{EraseUnprotectedInLine, InsertCells, DeleteCells}
use Rattle.terminal_model.specs.declared.action.Action.TheVariants.{InsertLines, DeleteLines, Protect, Render, SetMode}
use Rattle.terminal_model.specs.declared.action.Action.TheVariants.{BlankPage, SoftReset, ReportStatus, ReportPlace}
use Rattle.terminal_model.specs.declared.action.Action.TheVariants.{ReportPrinter, ReportAttributes}
use Rattle.terminal_model.specs.declared.action.Action.TheVariants.{ReportSecondaryAttributes}
use Rattle.terminal_model.specs.Screen.{Screen, line_edited, with_state, with_page}
use Rattle.terminal_model.specs.Functions.{actions_of}
use Rattle.terminal_model.specs.Motion.{unjoined, unpending, moved_to, home, whole_margins, indexed, reverse_indexed}
use Rattle.terminal_model.specs.Motion.{next_stop, line_up, line_down, line_named, bottom_of, margins_or_none}
use Rattle.terminal_model.specs.Printing.{printed}
use Rattle.terminal_model.specs.Saving.{saved_of, saved_or_none, restored}
use Rattle.terminal_model.specs.Erasing.{first_line, end_line, line_erased, part_erased, part_unprotected}
use Rattle.terminal_model.specs.Erasing.{lines_unprotected, is_in_margins, lines_inserted, lines_deleted}
use Rattle.cells.specs.Rendition.{rendition_with}
use Rattle.terminal_model.specs.Settings.{modes_with, homed}
use Rattle.terminal_model.specs.Resets.{cleared, reset, softly_reset}

-- The table. The first argument is the state of the screen.
unfoldable pub acted_from : State → Screen → Action → Screen
-- print: a graphic unit, through the sets; it ends a pending single shift (ECMA-35; VT220 manual,
-- chapter 2)
acted_from s x (Print u) =
    printed (mapped s.shifts u) (with_state x (record s { shifts = spent s.shifts u }))
-- BS, 08 (ECMA-48, 8.3.5)
acted_from s x Backspace = with_state x (moved_to s s.line (s.column - 1))
-- HT, 09 (ECMA-48, 8.3.60)
acted_from s x Tab = with_state x (moved_to s s.line (next_stop x.tabs s.columns s.column))
-- LF, VT, FF: 0A, 0B, 0C (ECMA-48, 8.3.74; VT220 manual: VT and FF as LF, and LNM)
acted_from s x LineFeed =
    indexed (with_state x (moved_to s s.line (cond s.modes.starts_lines 0 s.column)))
-- CR, 0D (ECMA-48, 8.3.15)
acted_from s x CarriageReturn = with_state x (moved_to s s.line 0)
-- SI, SO: 0F, 0E; LS2, LS3: ESC n, o; LS1R, LS2R, LS3R: ESC ~, }, |; SS2, SS3: ESC N, O (ECMA-48,
-- 8.3.75 to 8.3.81, 8.3.141, 8.3.142)
acted_from s x (Shift shift) =
    with_state x (unjoined (record s { shifts = shifted s.shifts shift }))
-- ESC, one of ( ) * +, one of B A 0 < (ECMA-35; VT220 manual: SCS)
acted_from s x (Designate place set) =
    with_state x (unjoined (record s { shifts = designated s.shifts place set }))
-- ESC % G, ESC % @ (ECMA-35, other coding systems)
acted_from s x (SetCoding coding) = with_state x (unpending (record s { coding = coding }))
-- IND, ESC D (VT220 manual, cursor positioning)
acted_from s x Index = indexed x
-- NEL, ESC E (ECMA-48, 8.3.86)
acted_from s x NextLine = indexed (with_state x (moved_to s s.line 0))
-- RI, ESC M (ECMA-48, 8.3.104)
acted_from s x ReverseIndex = reverse_indexed x
-- HTS, ESC H (ECMA-48, 8.3.62)
acted_from s x SetTab = record x { state = unpending s; tabs = slice_set x.tabs s.column true }
-- DECSC, ESC 7 (VT220 manual, cursor positioning); the pending wrap is saved (own), and then
-- cleared
acted_from s x Save = record x { state = unpending s; saved = Some (saved_of s) }
-- DECRC, ESC 8 (VT220 manual, cursor positioning)
acted_from s x Restore = with_state x (restored s (saved_or_none x.saved))
-- S7C1T, ESC SP F; S8C1T, ESC SP G (VT220 manual, C1 control transmission)
acted_from s x (SetEightBitReports on) =
    with_state x (unpending (record s { has_eight_bit_reports = on }))
-- DECKPAM, ESC =; DECKPNM, ESC > (VT220 manual, modes)
acted_from s x (SetApplicationKeypad on) =
    with_state x (unpending (record s { modes = record s.modes { has_application_keypad = on } }))
-- RIS, ESC c (ECMA-48, 8.3.105)
acted_from s x Reset = reset x
-- DECALN, ESC # 8 (VT220 manual, tests): every cell is an E
acted_from s x Align =
    with_page x (home (whole_margins s)) (page_from (filled (narrow_cell 0x45 plain false)) x.page)
-- CUU, CSI n A (ECMA-48, 8.3.22)
acted_from s x (Up n) = with_state x (moved_to s (line_up s n) s.column)
-- CUD, CSI n B (ECMA-48, 8.3.19)
acted_from s x (Down n) = with_state x (moved_to s (line_down s n) s.column)
-- CUF, CSI n C (ECMA-48, 8.3.20)
acted_from s x (Right n) = with_state x (moved_to s s.line (min (s.column + n) (s.columns - 1)))
-- CUB, CSI n D (ECMA-48, 8.3.18)
acted_from s x (Left n) = with_state x (moved_to s s.line (s.column - n))
-- CUP, CSI l ; c H (ECMA-48, 8.3.21); HVP, CSI l ; c f (8.3.63)
acted_from s x (MoveTo line column) =
    with_state x (moved_to s (line_named s line) (min column (s.columns - 1)))
-- DECSTBM, CSI t ; b r (VT220 manual, scrolling margins)
acted_from s x (SetMargins top bottom) =
    with_state x
    (margins_or_none (nat_lt top (bottom_of s.rows bottom)) top (bottom_of s.rows bottom) s)
-- TBC, CSI g (ECMA-48, 8.3.154)
acted_from s x ClearTab = record x { state = unpending s; tabs = slice_set x.tabs s.column false }
-- TBC, CSI 3 g
acted_from s x ClearTabs = record x { state = unpending s; tabs = replicate s.columns false }
-- ED, CSI n J (ECMA-48, 8.3.39): EL in the cursor's line, and then the other lines
acted_from s x (EraseInPage part) =
    with_page x (unpending s)
    (page_from (erased_lines (first_line part s) (end_line part s)) (part_erased s part x.page))
-- EL, CSI n K (ECMA-48, 8.3.41)
acted_from s x (EraseInLine part) = with_page x (unpending s) (part_erased s part x.page)
-- ECH, CSI n X (ECMA-48, 8.3.38): within the line
acted_from s x (EraseCells n) =
    with_page x (unpending s) (line_erased s s.column (min (s.column + n) s.columns) x.page)
-- DECSED, CSI ? n J (VT220 manual, erasing)
acted_from s x (EraseUnprotectedInPage part) =
    with_page x (unpending s) (lines_unprotected s part (part_unprotected s part x.page))
-- DECSEL, CSI ? n K (VT220 manual, erasing)
acted_from s x (EraseUnprotectedInLine part) =
    with_page x (unpending s) (part_unprotected s part x.page)
-- ICH, CSI n @ (ECMA-48, 8.3.64): as many blanks come in as there is room for
acted_from s x (InsertCells n) =
    with_page x (unpending s)
    (line_edited s
    (spliced s.column (replicate (min n (s.columns - s.column)) blank) s.column s.columns) x.page)
-- DCH, CSI n P (ECMA-48, 8.3.26): as many cells go out as there are
acted_from s x (DeleteCells n) =
    with_page x (unpending s)
    (line_edited s (spliced s.column [] (min (s.column + n) s.columns) s.columns) x.page)
-- IL, CSI n L (ECMA-48, 8.3.67)
acted_from s x (InsertLines n) = lines_inserted (is_in_margins s) n x
-- DL, CSI n M (ECMA-48, 8.3.32)
acted_from s x (DeleteLines n) = lines_deleted (is_in_margins s) n x
-- DECSCA, CSI Ps " q (VT220 manual, character attributes)
acted_from s x (Protect on) = with_state x (unpending (record s { is_protecting = on }))
-- SGR, CSI .. m (ECMA-48, 8.3.117)
acted_from s x (Render attribute) =
    with_state x (unjoined (record s { rendition = rendition_with s.rendition attribute }))
-- SM, CSI .. h (ECMA-48, 8.3.125); RM, CSI .. l (8.3.106); DECSM, CSI ? .. h; DECRM, CSI ? .. l
-- (VT220 manual, modes)
acted_from s x (SetMode mode on) =
    with_state x (homed mode (record s { modes = modes_with s.modes mode on }))
-- the value ?3 of DECSM and DECRM: the page is cleared, and its width stays (own)
acted_from s x BlankPage = cleared x
-- DECSTR, CSI ! p (VT220 manual, terminal reset)
acted_from s x SoftReset = record x { state = softly_reset s; saved = None }
-- DSR, CSI 5 n, CSI 6 n (ECMA-48, 8.3.35), CSI ? 15 n; DA, CSI c (8.3.24), CSI > c (VT220 manual,
-- reports)
acted_from s x ReportStatus = with_state x (unpending s)
acted_from s x ReportPlace = with_state x (unpending s)
acted_from s x ReportPrinter = with_state x (unpending s)
acted_from s x ReportAttributes = with_state x (unpending s)
acted_from s x ReportSecondaryAttributes = with_state x (unpending s)

abbrev pub acted : Screen → Action → Screen
acted x a = acted_from x.state x a

abbrev pub all_acted : Screen → List Action → Screen
all_acted x [] = x
all_acted x (a ∷ later) = all_acted (acted x a) later

-- what a control function does to a screen
abbrev pub effect : Screen → Func → Screen
effect x f = all_acted x (actions_of f)
