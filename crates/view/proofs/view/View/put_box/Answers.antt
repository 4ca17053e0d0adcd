use Rattle.view.proofs.Vocabulary.{◌≡◌, arith, refl, ◌∙◌, Piece, part_of, box_cell}
use Rattle.view.proofs.Laying.{none_lays, row_is_free, one_more_row, all_rows}
use Rattle.view.proofs.view.View.put_box.Goals as goal

pub loop-row-init : goal.loop-row-init
loop-row-init c = record {
  size = record { rows_are = refl; columns_are = refl };
  lays = λ lines free. none_lays
      (record { rect = c.args.rect; cell = box_cell c.args.rect c.args.is_focused (part_of c.args.pane.now) })
      c.args.self.now;
  characters = λ some all. absurd (omega arith);
}

pub loop-row-preserved : goal.loop-row-preserved
loop-row-preserved c =
    let piece : Piece = record
    { rect = c.args.rect; cell = box_cell c.args.rect c.args.is_focused (part_of c.args.pane.now) } in
    let inv = c.loop-row.invariant in
    record {
      size = record {
        rows_are = c.in_ok-put_box_row.ensures.size.rows_are ∙ inv.size.rows_are;
        columns_are = c.in_ok-put_box_row.ensures.size.columns_are ∙ inv.size.columns_are;
      };
      lays = λ lines free.
          let before = inv.lays lines free in
          let put = c.in_ok-put_box_row.ensures.lays lines
          (row_is_free piece c.loop-row.row c.args.self.now c.loop-row.self free c.loop-row-test.true before) in
          one_more_row piece c.loop-row.row c.args.self.now c.loop-row.self c.put_box_row.new.self put.cells before
          put.lays put.are_row;
      characters = λ some all. c.in_ok-put_box_row.ensures.characters all;
    }

pub returns-clause-lays : goal.returns-clause-lays
returns-clause-lays c = λ lines free.
    let piece : Piece = record
    { rect = c.args.rect; cell = box_cell c.args.rect c.args.is_focused (part_of c.args.pane.now) } in
    all_rows piece c.loop-row.row c.args.self.now c.loop-row.self
    (omega (arith, c.loop-row-test.false, c.loop-row.auto.row-end)) (c.loop-row.invariant.lays lines free)

pub returns-clause-characters : goal.returns-clause-characters
returns-clause-characters c = λ some.
    let all : c.loop-row.row ≡ c.args.rect.rows = omega (arith, c.loop-row-test.false, c.loop-row.auto.row-end) in
    c.loop-row.invariant.characters (omega (arith, all, some)) all
