-- What this crate's proofs take from definitions and from other crates.
pub use Rattle.cells.proofs.Grids.{length-page_resized, line_at-page_resized, line_from-resized}
pub use Rattle.cells.proofs.Pages.{IsPage-page_from, IsPaired-nil, length-line_from, page_from-edited}
pub use Rattle.cells.proofs.Resizing.{length-line_resized, resized_is}
pub use Rattle.cells.proofs.Settling.{cell_at_past}
pub use Rattle.cells.proofs.Splicing.{IsPaired-blanks, at_fresh, at_front, at_rest, narrow_pairs, wide_pairs}
pub use Rattle.cells.specs.Line.{Fresh, IsPaired, Old, Source, are_halves, blank, cell_at, cells_from, is_left}
pub use Rattle.cells.specs.Line.{is_right, kept, left_cell, marked, narrow_cell, plain, right_cell, settled}
pub use Rattle.cells.specs.Line.{source_after, source_before, spliced, unprotected, unprotected_erased}
pub use Rattle.cells.specs.Page.{From, IsGridSize, IsPage, New, Origin, are_own_halves, edited, line_at, on_line}
pub use Rattle.cells.specs.Page.{origin_after, origin_before, page_from, page_marked, settled_cell}
pub use Rattle.cells.specs.Resizing.{line_resized, page_resized}
pub use Rattle.cells.specs.declared.cell.Cell.{Cell}
pub use Rattle.cells.specs.declared.rendition.Attribute.{Attribute}
pub use Rattle.cells.specs.declared.rendition.Rendition.{Rendition}
pub use Rattle.charsets.proofs.Joins.{units-can, units-go_on, units-rest}
unfoldable pub use Rattle.charsets.specs.Sets.{character_at, supplement}
pub use Rattle.charsets.specs.Shifts.{is_graphic, spent}
unfoldable pub use Rattle.charsets.specs.Shifts.{mapped}
pub use Rattle.charsets.specs.Units.{IsUnit, is_plain, units}
unfoldable pub use Rattle.charsets.specs.Utf8.{cut, piece}
pub use Rattle.charsets.specs.declared.decoder.Coding.{Coding}
pub use Rattle.charsets.specs.declared.decoder.Coding.TheVariants.{Ecma35, Utf8}
pub use Rattle.charsets.specs.declared.decoder.Unit.{Unit}
pub use Rattle.charsets.specs.declared.decoder.Unit.TheVariants.{Code, High}
pub use Rattle.charsets.specs.declared.shifts.Shifts.{Shifts}
pub use Rattle.control_parser.proofs.Openings.{functions-go_on, functions-opening}
pub use Rattle.control_parser.specs.Grammar.{Rest, control, escape, functions, nothing, with_front}
unfoldable pub use Rattle.control_parser.specs.Grammar.{begun_by, controls, functions_behind, piece as function_piece}
unfoldable pub use Rattle.control_parser.specs.Grammar.{text}
pub use Rattle.control_parser.specs.Kept.{opening}
pub use Rattle.control_parser.specs.Spelling.{IsGiven, ReadsAs, coding_of, spelling}
unfoldable pub use Rattle.control_parser.specs.Spelling.{decimal}
unfoldable pub use Rattle.control_parser.specs.Text.{fields}
pub use Rattle.control_parser.specs.declared.parser.Func.{Func}
pub use Rattle.control_parser.specs.declared.parser.Func.TheVariants.{Csi, Esc, Print}
pub use Rattle.std.proofs.Common.{Bool, List, None, Option, Some, [], ap, append-nil, append_assoc, arith, cond, eq-eqb}
pub use Rattle.std.proofs.Common.{eqb, false, get_or, leb, length, ltb, map, max, min, refl, replicate, reverse, rules}
pub use Rattle.std.proofs.Common.{set, slice_index, subst, suc, sym, take, true, zero, ℕ, ⊎_elim, ◌&&◌, ◌++◌, ◌+◌, ◌-◌}
pub use Rattle.std.proofs.Common.{◌<◌, ◌∙◌, ◌∷◌, ◌≡◌, ◌≤◌, ◌⊎◌}
pub use Rattle.std.proofs.lemmas.Bool.{cases_lt, ne_eqb}
pub use Rattle.std.proofs.lemmas.Bool.Decides.{nat_tests}
pub use Rattle.std.proofs.lemmas.Grind.{common_steps, flat_map-append}
pub use Rattle.std.proofs.lemmas.List.{get_or_past, length-map, length-replicate, length-set, length-take, map-append}
pub use Rattle.std.proofs.lemmas.List.{reverse-append}
pub use Rattle.std.proofs.lemmas.List.FromFn.{get_or-map-range_with_len, length-map-range_with_len}
pub use Rattle.std.specs.List.{AllByRecursion, list_all, range_with_len}
pub use Rattle.std.specs.Prelude.{IfSome, codes, if◌then◌else◌, is_some, nat_lt, option_map, option_to_list, ◌==◌}
pub use Rattle.terminal_model.specs.Drawable.{AreDrawableLines, IsDrawableCell, IsDrawableLine, IsDrawableScreen}
pub use Rattle.terminal_model.specs.Drawable.{IsGlyph}
pub use Rattle.terminal_model.specs.Drawing.{AreSpelled, Draws, IsDrawn, IsListed, PrintsOf, StandsAt, frame_bytes}
pub use Rattle.terminal_model.specs.Drawing.{frame_start, place_by}
pub use Rattle.terminal_model.specs.Functions.{actions_of, each, private_mode_set, rendered}
unfoldable pub use Rattle.terminal_model.specs.Functions.{plain_sequence, private_sequence}
pub use Rattle.terminal_model.specs.Motion.{bottom_of, moved_to, unjoined, unpending}
pub use Rattle.terminal_model.specs.Places.{IsPlain, keypad_final, mode_final, place}
unfoldable pub use Rattle.terminal_model.specs.Printing.{columns_of, drawn}
pub use Rattle.terminal_model.specs.Reading.{Act, IsTerminal, Read, Terminal, in_coding, joined, nothing_read, ready}
pub use Rattle.terminal_model.specs.Reading.{rest_in}
unfoldable pub use Rattle.terminal_model.specs.Reading.{act, act_all, read_byte, read_unit, read_units, reads}
pub use Rattle.terminal_model.specs.Reports.{all_answered, report}
pub use Rattle.terminal_model.specs.Screen.{AreKept, IsInside, IsSound, Page, Screen, blank_page, starting}
pub use Rattle.terminal_model.specs.Screen.{starting_tabs, with_newest, with_page, with_state}
pub use Rattle.terminal_model.specs.Scrollback.{lines_of}
unfoldable pub use Rattle.terminal_model.specs.Sizing.{resized}
pub use Rattle.terminal_model.specs.Table.{acted, all_acted, effect}
unfoldable pub use Rattle.terminal_model.specs.Table.{acted_from}
pub use Rattle.terminal_model.specs.Writing.{IsWriting, Output, Writing, writes}
unfoldable pub use Rattle.terminal_model.specs.Writing.{writes_all}
pub use Rattle.terminal_model.specs.declared.action.Action.{Action}
pub use Rattle.terminal_model.specs.declared.action.Action.TheVariants.{Render, SetMargins, SetMode}
pub use Rattle.terminal_model.specs.declared.state.Position.{Position}
pub use Rattle.terminal_model.specs.declared.state.State.{State}
unfoldable pub use Rattle.unicode_width.proofs.Computing.{unicode_width}
unfoldable pub use Rattle.unicode_width.specs.Width.{char_width}
