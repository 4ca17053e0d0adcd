use Rattle.view.proofs.Vocabulary.{◌≡◌, false, List, [], ◌∷◌, arith, refl, ap, ◌∙◌, Cell, narrow_cell, Piece}
use Rattle.view.proofs.Vocabulary.{separator_piece, reverse, IsRow}
use Rattle.cells.specs.Rendition.{Rendition}
use Rattle.view.proofs.Laying.{none_lays, row_is_free, one_more_row, all_rows}
use Rattle.view.proofs.Pairing.{bar_row, bar_pairs}
use Rattle.view.proofs.view.View.put_separator.Goals as goal

pub loop-row-init : goal.loop-row-init
loop-row-init c = record {
  size = record { rows_are = refl; columns_are = refl };
  lays = λ narrow free. none_lays (separator_piece c.args.rect) c.args.self.now;
}

pub loop-row-preserved : goal.loop-row-preserved
loop-row-preserved c =
    let piece : Piece = separator_piece c.args.rect in
    let inv = c.loop-row.invariant in
    record {
      size = record {
        rows_are = c.put_row.ensures.size.rows_are ∙ inv.size.rows_are;
        columns_are = c.put_row.ensures.size.columns_are ∙ inv.size.columns_are;
      };
      lays = λ narrow free.
          let cells : List Cell = c.narrow.result ∷ [] in
          let same : cells ≡ narrow_cell 0x7C reverse false ∷ [] =
          ap (λ (bar : Cell). bar ∷ []) (c.narrow.ensures ∙ ap (λ (r : Rendition). narrow_cell 0x7C r false)
          c.reverse.ensures) in
          let row : IsRow (piece.cell c.loop-row.row) c.args.rect.columns cells = bar_row cells
          (narrow_cell 0x7C reverse false) c.args.rect.columns same narrow in
          let before = inv.lays narrow free in
          one_more_row piece c.loop-row.row c.args.self.now c.loop-row.self c.put_row.new.self cells before
          (c.put_row.ensures.lays
          (row_is_free piece c.loop-row.row c.args.self.now c.loop-row.self free c.loop-row-test.true before)
          (bar_pairs cells (narrow_cell 0x7C reverse false) refl same) row.width)
          row;
    }

pub returns-clause-lays : goal.returns-clause-lays
returns-clause-lays c = λ narrow free.
    all_rows (separator_piece c.args.rect) c.loop-row.row c.args.self.now c.loop-row.self
    (omega (arith, c.loop-row-test.false, c.loop-row.auto.row-end)) (c.loop-row.invariant.lays narrow free)
