-- What this crate's proofs take from definitions and from other crates.
pub use Rattle.cells.proofs.Pages.{IsPage-page_from, page_from-edited}
pub use Rattle.cells.specs.Line.{IsPaired, blank, cell_at, cells_from, is_left, is_right, left_cell, marked}
pub use Rattle.cells.specs.Line.{narrow_cell, narrow_cells, plain, spliced, unprotected_erased}
pub use Rattle.cells.specs.Page.{From, IsGridSize, IsPage, edited, line_at, line_from, on_line, page_from, page_marked}
pub use Rattle.cells.specs.Page.{page_spliced}
pub use Rattle.cells.specs.Texts.{PutsText, base_cell, cells_on, is_base, is_base_or_mark, is_based, is_known_wide}
pub use Rattle.cells.specs.Texts.{is_letter, is_mark, last_columns, text_cells, whole}
pub use Rattle.cells.specs.declared.cell.Cell.{Cell}
pub use Rattle.cells.specs.declared.rendition.Rendition.{Rendition}
pub use Rattle.charsets.specs.Units.{is_plain}
pub use Rattle.charsets.specs.declared.decoder.Unit.TheVariants.{Code}
pub use Rattle.charsets.specs.declared.shifts.Shifts.{Shifts}
pub use Rattle.std.proofs.Common.{Bool, List, None, Option, Some, [], ap, append-nil, arith, cond, drop, eq-eqb, eqb}
pub use Rattle.std.proofs.Common.{eqb-true, false, get_or, inl, inr, le-leb, leb, leb-true, length, length-append}
pub use Rattle.std.proofs.Common.{length-take, lt-ltb, ltb, ltb-true, map, min, nat_le, nat_lt, refl, replicate}
pub use Rattle.std.proofs.Common.{reverse, set, subst, suc, sym, take, true, zero, ℕ, ⊎_elim, ◌&&◌, ◌++◌, ◌+◌, ◌-◌, ◌<◌}
pub use Rattle.std.proofs.Common.{◌==◌, ◌||◌, ◌∙◌, ◌∷◌, ◌≡◌, ◌≤◌}
pub use Rattle.std.proofs.lemmas.Bool.{and_parts, cases_Bool, cases_eq, cases_lt, cond-false, cond-true, lt-leb, ne_eqb}
pub use Rattle.std.proofs.lemmas.Bool.Decides.{nat_tests}
pub use Rattle.std.proofs.lemmas.List.{drop_all, drop_more, get_or-set_other, get_or-set_same, length-set, map-append}
pub use Rattle.std.specs.List.{list_all, prefix_len}
pub use Rattle.std.specs.Prelude.{if◌then◌else◌, slice_index_or}
pub use Rattle.terminal_model.proofs.Sound.{IsSound-acted, IsSound-resized, IsSound-starting}
pub use Rattle.terminal_model.specs.Erasing.{is_in_margins, lines_deleted, lines_inserted, unprotected_lines}
pub use Rattle.terminal_model.specs.Functions.{alone, each}
pub use Rattle.terminal_model.specs.Motion.{indexed, moved_to}
pub use Rattle.terminal_model.specs.Printing.{advanced, lacks_room, marked_at, placed, placed_narrow, placed_wide}
pub use Rattle.terminal_model.specs.Printing.{printed, printed_as, wide_or_none, wide_printed, wrapped}
unfoldable pub use Rattle.terminal_model.specs.Printing.{columns_of, drawn}
pub use Rattle.terminal_model.specs.Screen.{IsSound, Page, Screen, line_edited, starting, with_newest, with_page}
pub use Rattle.terminal_model.specs.Screen.{with_state}
pub use Rattle.terminal_model.specs.Scrollback.{is_wrapped}
unfoldable pub use Rattle.terminal_model.specs.Sizing.{resized}
pub use Rattle.terminal_model.specs.Table.{acted, all_acted}
unfoldable pub use Rattle.terminal_model.specs.Table.{acted_from}
pub use Rattle.terminal_model.specs.declared.action.Action.{Action}
pub use Rattle.terminal_model.specs.declared.action.Action.TheVariants.{CarriageReturn, LineFeed, NextLine, Print}
pub use Rattle.terminal_model.specs.declared.state.State.{State}
pub use Rattle.vt_screen.specs.Acting.{MovesLines}
pub use Rattle.vt_screen.specs.Displays.{IsFit, screen_of}
pub use Rattle.vt_screen.specs.Places.{acted_places, all_acted_places, indexed_places, printed_places, wrapped_places}
pub use Rattle.vt_screen.specs.Runs.{ScrollsPlain, TakesRuns, prints}
pub use Rattle.vt_screen.specs.Stored.{Performs, Stored}
pub use Rattle.vt_screen.specs.Texts.{PrintsText}
pub use Rattle.vt_screen.specs.declared.screen.Display.{Display}
pub use Rattle.vt_screen_state.specs.Meanings.{meaning}
