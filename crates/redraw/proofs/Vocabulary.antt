-- What this crate's proofs take from definitions and from other crates.
pub use Rattle.cells.proofs.Settling.{cell_at_past, true≢false}
pub use Rattle.cells.specs.Line.{IsPaired, Old, Source, are_halves, blank, cell_at, cells_from, fresh_at, is_left}
pub use Rattle.cells.specs.Line.{is_right, kept, left_cell, marked, narrow_cell, plain, right_cell, settled}
pub use Rattle.cells.specs.Line.{source_after, source_before, spliced, unprotected}
pub use Rattle.cells.specs.Page.{IsGrid, IsGridSize, IsPage, edited, line_at, page_from, page_marked}
pub use Rattle.cells.specs.Unlike.{IsEndOfUnlike, IsNextUnlike}
pub use Rattle.cells.specs.declared.cell.Cell.{Cell}
pub use Rattle.cells.specs.declared.cell.Shape.{Shape}
pub use Rattle.cells.specs.declared.cell.Shape.TheVariants.{Left, Narrow, Right}
pub use Rattle.cells.specs.declared.rendition.Rendition.{Rendition}
pub use Rattle.charsets.specs.declared.decoder.Coding.TheVariants.{Utf8}
pub use Rattle.control_parser.specs.Spelling.{IsGiven, coding_of, spelling}
pub use Rattle.control_parser.specs.declared.parser.Func.TheVariants.{Csi, Print}
pub use Rattle.draw_check.proofs.Joining.{draws_append, draws_append as joined_draws, none_draw, one_draws}
pub use Rattle.redraw.specs.Commands.{IsCommand, func_of, place_params}
pub use Rattle.redraw.specs.Drawing.{AreLines, Drawing, DrawsLine, DrawsPage, DrawsPiece, DrawsUpTo, Final, HasLine}
pub use Rattle.redraw.specs.Drawing.{HasPage, IsWay, Keeps, Knows, Leads, Row, Stage, Stands, Takes, Writes, changed}
pub use Rattle.redraw.specs.Drawing.{glyph_bytes, mark_bytes, mixed, row_of, row_written, seen, width_of}
pub use Rattle.redraw.specs.Frames.{Begins, CanBeShown, DrawsBytes, EndsAs, IsFrameFor, Redraws, pen_of}
pub use Rattle.redraw.specs.Renditions.{all_bytes, rendition_params}
pub use Rattle.redraw.specs.Shadow.{AreAlikeAbove, Knowledge}
pub use Rattle.redraw.specs.declared.command.Command.{Command}
pub use Rattle.redraw.specs.declared.command.Command.TheVariants.{Arrows, EraseCells, EraseToEnd, Forward, Glyph}
pub use Rattle.redraw.specs.declared.command.Command.TheVariants.{Keypad, MoveTo, NextLine, Render, ShowCursor}
pub use Rattle.redraw.specs.declared.pen.Pen.{Pen}
pub use Rattle.std.proofs.Common.{Bool, List, None, Option, Some, [], ap, append-nil, append_assoc, arith, cond, drop}
pub use Rattle.std.proofs.Common.{eq-eqb, eqb, false, get_or, inl, inr, is_some, length, ltb, max, min, refl, replicate}
pub use Rattle.std.proofs.Common.{set, subst, suc, sym, true, zero, ℕ, ⊎_elim, ◌&&◌, ◌*◌, ◌++◌, ◌+◌, ◌-◌, ◌<◌, ◌==◌}
pub use Rattle.std.proofs.Common.{◌∙◌, ◌∷◌, ◌≡◌, ◌≤◌}
pub use Rattle.std.proofs.lemmas.Bool.{cases_Bool, cases_eq, cases_lt, eqb-true, le-ltb, lt-ltb, ne_eqb}
pub use Rattle.std.proofs.lemmas.List.{drop_all, drop_more, get_or-replicate, get_or-set_other, get_or-set_same}
pub use Rattle.std.proofs.lemmas.List.{get_or_default, get_or_past, length-append, length-replicate}
pub use Rattle.std.proofs.lemmas.Option.{MatchOption-at_some}
pub use Rattle.std.specs.List.{AllByRecursion}
pub use Rattle.std.specs.Prelude.{IfSome}
pub use Rattle.terminal_model.proofs.Further.{spelled-append, spelled-one}
pub use Rattle.terminal_model.proofs.Readings.{reads-append}
pub use Rattle.terminal_model.proofs.Sound.{IsSound-effect}
pub use Rattle.terminal_model.specs.Drawable.{AreMarks, HasGlyph, HasHalves, HaveHalves, IsDrawableCell, IsDrawableLine}
pub use Rattle.terminal_model.specs.Drawable.{IsGlyph}
pub use Rattle.terminal_model.specs.Drawing.{Agrees, AreSpelled, Differs, Draws, HasMark, HasPart, IsDiscreet, IsListed}
pub use Rattle.terminal_model.specs.Drawing.{IsSpare, StandsAt, cell_of, drawn_state, frame_bytes, frame_start}
pub use Rattle.terminal_model.specs.Drawing.{has_room, mark_place, place_by}
unfoldable pub use Rattle.terminal_model.specs.Functions.{plain_sequence, private_sequence}
pub use Rattle.terminal_model.specs.Motion.{unjoined, unpending}
pub use Rattle.terminal_model.specs.Reading.{Act, IsTerminal, Terminal, joined, ready}
unfoldable pub use Rattle.terminal_model.specs.Reading.{reads}
pub use Rattle.terminal_model.specs.Screen.{IsInside, IsSound, Page, Screen, blank_page, with_state}
pub use Rattle.terminal_model.specs.Shows.{IsOfSize, NeedsDraw, NeedsNoDraw, ShowsCursor, View, seen_at}
pub use Rattle.terminal_model.specs.Table.{effect}
unfoldable pub use Rattle.terminal_model.specs.Table.{acted_from}
pub use Rattle.terminal_model.specs.declared.state.Position.{Position}
pub use Rattle.terminal_model.specs.declared.state.State.{State}
pub use Rattle.view.specs.Drawable.{IsDrawable}
pub use Rattle.view.specs.View.{HasSize, place_of}
pub use Rattle.view.specs.declared.view.KeyModes.{KeyModes}
