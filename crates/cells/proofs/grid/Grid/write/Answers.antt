use Rattle.cells.proofs.Vocabulary.{◌+◌, ◌<◌, List, length, ◌∙◌, ap, subst, sym, Cell, cells_from, spliced}
use Rattle.cells.specs.Page.{IsGrid, line_at, page_from, edited}
use Rattle.cells.proofs.Pages.{edit_is, IsGrid-page_from}
use Rattle.cells.proofs.grid.Grid.write.Goals as goal

pub invariant_of-self : goal.invariant_of-self
invariant_of-self c =
    let page : List (List Cell) = c.self.inside.lines.items in
    let inside : c.args.line < length page = rw c.self.view_is c.requires.line_inside in
    subst IsGrid
    (sym (edit_is page c.args.line c.index_mut.result.now
    (λ width. spliced c.args.column c.args.cells.now (c.args.column + length c.args.cells.now) width) c.put.new.self
    c.self.invariant.well_formed inside
    (c.put.ensures
    ∙ ap
    (λ (line : List Cell). cells_from
    (spliced c.args.column c.args.cells.now (c.args.column + length c.args.cells.now) (length line)) line)
    c.index_mut.ensures.value)))
    (IsGrid-page_from
    (edited c.args.line
    (spliced c.args.column c.args.cells.now (c.args.column + length c.args.cells.now)
    (length (line_at page c.args.line)))) page c.self.invariant)

pub returns : goal.returns
returns c =
    let page : List (List Cell) = c.self.inside.lines.items in
    let inside : c.args.line < length page = rw c.self.view_is c.requires.line_inside in
    edit_is page c.args.line c.index_mut.result.now
    (λ width. spliced c.args.column c.args.cells.now (c.args.column + length c.args.cells.now) width) c.put.new.self
    c.self.invariant.well_formed inside
    (c.put.ensures
    ∙ ap
    (λ (line : List Cell). cells_from
    (spliced c.args.column c.args.cells.now (c.args.column + length c.args.cells.now) (length line)) line)
    c.index_mut.ensures.value)
    ∙ ap (λ (g : List (List Cell)). page_from
    (edited c.args.line
    (spliced c.args.column c.args.cells.now (c.args.column + length c.args.cells.now)
    (length (line_at g c.args.line)))) g) c.self.view_is
