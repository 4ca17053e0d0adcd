use Rattle.view.proofs.Vocabulary.{◌+◌, List, length, refl, Cell, spliced, line_at, edited}
use Rattle.cells.proofs.Pages.{IsGrid-page_from, length-page_from, width-page_from}
use Rattle.view.proofs.view.View.put.Goals as goal

pub returns-then-cells-columns : goal.returns-then-cells-columns
returns-then-cells-columns c =
    let page : List (List Cell) = c.self.inside.grid in
    let source = spliced c.args.column c.args.cells.now (c.args.column + length c.args.cells.now)
    (length (line_at page c.args.line)) in
    rw (c.write.ensures, ← c.self.view_is) record {
      grid = c.self.invariant.grid;
      size = record {
        rows_are = length-page_from (edited c.args.line source) page;
        columns_are = width-page_from (edited c.args.line source) page 0;
      };
      value = λ hl hc. refl;
    }

pub invariant_of-self : goal.invariant_of-self
invariant_of-self c =
    let page : List (List Cell) = c.self.inside.grid in
    let source = spliced c.args.column c.args.cells.now (c.args.column + length c.args.cells.now)
    (length (line_at page c.args.line)) in
    rw c.write.ensures record {
      grid = IsGrid-page_from (edited c.args.line source) page c.self.invariant.grid;
      inside = rw
          (length-page_from (edited c.args.line source) page, width-page_from (edited c.args.line source) page 0)
          c.self.invariant.inside;
    }
