-- What this crate's proofs take from definitions and from other crates.
pub use Rattle.cells.specs.Line.{ArePlainFrom, Fresh, IsBlankFrom, IsNoted, IsPaired, IsPlain, IsUsed, Old, Source}
pub use Rattle.cells.specs.Line.{are_halves, blank, cell_at, cells_from, cells_spliced, cut_of, fresh_at, is_left}
pub use Rattle.cells.specs.Line.{is_right, kept, left_cell, marked, narrow_cell, narrow_cells, plain, right_cell}
pub use Rattle.cells.specs.Line.{right_follows, settled, source_after, source_before, spliced, taken, unprotected}
pub use Rattle.cells.specs.Line.{unprotected_erased}
pub use Rattle.cells.specs.Marks.{codes_of}
pub use Rattle.cells.specs.Put.{AreNarrow, IsPut, mended}
pub use Rattle.cells.specs.Rendition.{bits_of, rendition_of, rendition_with}
pub use Rattle.cells.specs.Resizing.{line_resized, page_resized}
pub use Rattle.cells.specs.Texts.{PutsText, base_cell, cells_on, is_base, is_base_or_mark, is_based, is_known_wide}
pub use Rattle.cells.specs.Texts.{is_letter, is_mark, last_columns, text_cells, whole}
pub use Rattle.cells.specs.Unlike.{IsAlike, IsUnlike}
pub use Rattle.cells.specs.declared.cell.Cell.{Cell}
pub use Rattle.cells.specs.declared.cell.Shape.{Shape}
pub use Rattle.cells.specs.declared.cell.Shape.TheVariants.{Left, Narrow, Right}
pub use Rattle.cells.specs.declared.rendition.Rendition.{Rendition}
pub use Rattle.charsets.specs.Text.{text}
pub use Rattle.charsets.specs.Units.{is_character, is_plain}
pub use Rattle.std.proofs.Common.{Bool, List, [], ap, append_assoc, arith, bit_and, cond, drop, eq-eqb, eqb, false}
pub use Rattle.std.proofs.Common.{get_or, inl, inr, leb, length, length-drop, length-take, ltb, map, max, min, not}
pub use Rattle.std.proofs.Common.{refl, replicate, rules, set, slice_set, subst, suc, sym, take, true, zero, ℕ, ⊎_elim}
pub use Rattle.std.proofs.Common.{◌&&◌, ◌*◌, ◌++◌, ◌+◌, ◌-◌, ◌/◌, ◌<◌, ◌||◌, ◌∙◌, ◌∷◌, ◌≡◌, ◌≤◌, ◌⊎◌}
pub use Rattle.std.proofs.lemmas.Bool.{and_parts, cases_Bool, cases_eq, cases_lt, eqb-true, le-ltb, lt-ltb, ne_eqb}
pub use Rattle.std.proofs.lemmas.Bool.Decides.{nat_tests}
pub use Rattle.std.proofs.lemmas.List.{append-nil, drop-drop, ext_get_or, get_or-append_right, get_or-drop}
pub use Rattle.std.proofs.lemmas.List.{get_or-replicate, get_or-set_other, get_or-set_same, get_or-take}
pub use Rattle.std.proofs.lemmas.List.{get_or_append_left, get_or_default, get_or_past, length-append, length-map}
pub use Rattle.std.proofs.lemmas.List.{length-replicate, length-set, length-take-le, map-append, places}
pub use Rattle.std.proofs.lemmas.List.{replicate-append-replicate, take-append-drop, take_all, take_at}
pub use Rattle.std.proofs.lemmas.List.Folds.{list_all-append, list_all_more}
pub use Rattle.std.proofs.lemmas.List.FromFn.{get_or-map-range_with_len, length-map-range_with_len}
pub use Rattle.std.specs.List.{CopiedTo, SameBelow, copy_within, list_all, range_with_len}
