-- What this crate's proofs take from definitions and from other crates.
pub use Rattle.cells.proofs.Settling.{and_false}
pub use Rattle.cells.specs.Glyph.{drawn_as, glyph_columns}
pub use Rattle.cells.specs.Line.{IsPaired, blank, cell_at, is_left, is_right, left_cell, narrow_cell, plain, right_cell}
pub use Rattle.cells.specs.Line.{spliced, unprotected}
pub use Rattle.cells.specs.Page.{IsGrid, edited, line_at, page_from}
pub use Rattle.cells.specs.declared.cell.Cell.{Cell}
pub use Rattle.cells.specs.declared.cell.Shape.TheVariants.{Left, Narrow, Right}
pub use Rattle.cells.specs.declared.rendition.Rendition.{Rendition}
pub use Rattle.regions.proofs.Room.{both_true, room_fits, tall, wide}
pub use Rattle.regions.specs.Pages.{TilesPage, among, box_of, caption, has, inner, is_roomy, one_if, parts, status_of}
pub use Rattle.regions.specs.Pages.{times}
pub use Rattle.regions.specs.Shapes.{Shape, boxes, left, lower, region, right, separators, split, upper}
pub use Rattle.regions.specs.declared.rect.Rect.{Rect}
pub use Rattle.regions.specs.declared.rect.Rects.{Rects}
pub use Rattle.std.proofs.Common.{Bool, List, [], ap, append_assoc, arith, cond, drop, eq-eqb, eqb, false, get_or}
pub use Rattle.std.proofs.Common.{get_or-set_other, inl, inr, le-leb, leb, length, length-append, lt-ltb, ltb, map}
pub use Rattle.std.proofs.Common.{refl, replicate, slice_set, subst, suc, sym, take, true, zero, ℕ, ⊎_elim, ◌&&◌, ◌++◌}
pub use Rattle.std.proofs.Common.{◌+◌, ◌-◌, ◌<◌, ◌||◌, ◌∙◌, ◌∷◌, ◌≡◌, ◌≤◌, ◌⊎◌}
pub use Rattle.std.proofs.lemmas.Bool.{cases_Bool, cases_eq, cases_lt, eqb-true, le-ltb, leb-true, ltb-true, ne_eqb}
pub use Rattle.std.proofs.lemmas.List.{ext_get_or, get_or-map, get_or_append_left, get_or_default, get_or_past}
pub use Rattle.std.proofs.lemmas.Result.{IfOk-weaker}
pub use Rattle.std.specs.List.{list_all, range_with_len}
pub use Rattle.std.specs.Prelude.{IfSome, None, Option, Some, chars, if◌then◌else◌, nat_lt, ◌==◌}
pub use Rattle.std.specs.Str.{all_scalars}
pub use Rattle.std.specs.Str.Lossy.{utf8_lossy}
pub use Rattle.std.specs.String.{string_bytes}
pub use Rattle.terminal_model.proofs.Places.{blank-at, over-at}
pub use Rattle.terminal_model.specs.Drawable.{IsDrawableCell, IsDrawableLine}
pub use Rattle.terminal_model.specs.Places.{overlaid_cell, place}
unfoldable pub use Rattle.terminal_model.specs.Printing.{columns_of, drawn}
pub use Rattle.terminal_model.specs.Screen.{IsInside, Page}
pub use Rattle.terminal_model.specs.Shows.{View}
unfoldable pub use Rattle.unicode_width.specs.Width.{char_width}
pub use Rattle.view.specs.Composing.{HasPageSize}
pub use Rattle.view.specs.Drawable.{IsDrawable}
pub use Rattle.view.specs.Granted.{AreDrawable, AreParts, HasPairedLines, Part, Piece, box_at, box_cell}
pub use Rattle.view.specs.Granted.{caption_rendition, caption_text, cell_of, cursor_of, first_shown, line_cell, part_at}
pub use Rattle.view.specs.Granted.{part_cell, part_of, pieces, read, region_piece, reverse, separator_piece, shown_cell}
pub use Rattle.view.specs.Granted.{status_piece, unread, vacant}
pub use Rattle.view.specs.Rows.{AreFree, FocusesOn, IsFree, IsOnPage, IsPlaced, IsRow, Lays, laid, nowhere, row_of}
pub use Rattle.view.specs.Texts.{char_cells, text_at, text_cells, uncut, visible}
pub use Rattle.view.specs.View.{HasSize, place_of, written}
pub use Rattle.view.specs.declared.view.Pane.{Pane}
pub use Rattle.view.specs.declared.view.Pane.TheVariants.{Empty, Hidden, Readable}
