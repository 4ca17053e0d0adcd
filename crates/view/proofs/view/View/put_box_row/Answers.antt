use Rattle.view.proofs.Vocabulary.{List, subst, sym, Cell, part_of, box_cell, IsRow}
use Rattle.view.specs.Rows.{IsBoxRow}
use Rattle.view.proofs.Pairing.{box_pairs}
use Rattle.view.proofs.view.View.put_box_row.Goals as goal

pub returns-in-Some-clause-lays : goal.returns-in-Some-clause-lays
returns-in-Some-clause-lays c = λ lines free.
    let now : List Cell = c.in-Some.line.now in
    let row : IsBoxRow c.args.place.rect c.args.place.is_focused (part_of c.args.pane.now) c.args.place.row now =
    c.in-Some.ensures.row c.args.place.is_focused in
    record {
      cells = now;
      are_row = row;
      lays = c.put_row.ensures.lays free
          (box_pairs c.args.place.rect c.args.place.is_focused (part_of c.args.pane.now) c.args.place.row now lines row)
          row.width;
    }

pub returns-in_ok-box_row-in-None-clause-lays : goal.returns-in_ok-box_row-in-None-clause-lays
returns-in_ok-box_row-in-None-clause-lays c = λ lines free.
    let now : List Cell = c.deref.result.now in
    let row : IsBoxRow c.args.place.rect c.args.place.is_focused (part_of c.args.pane.now) c.args.place.row now =
    subst
    (λ (cells : List Cell). IsRow
    (box_cell c.args.place.rect c.args.place.is_focused (part_of c.args.pane.now) c.args.place.row)
    c.args.place.rect.columns cells) (sym c.deref.ensures.value) c.in_ok-box_row-in-None.ensures.row in
    record {
      cells = now;
      are_row = row;
      lays = c.put_row-in-None.ensures.lays free
          (box_pairs c.args.place.rect c.args.place.is_focused (part_of c.args.pane.now) c.args.place.row now lines row)
          row.width;
    }
