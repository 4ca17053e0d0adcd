use Rattle.view.proofs.Vocabulary.{refl, row_of}
use Rattle.view.proofs.Laying.{row_lays, line_inside, cells_fit}
use Rattle.view.proofs.view.View.put_row.Goals as goal

pub returns-clause-lays : goal.returns-clause-lays
returns-clause-lays c = λ free paired wide.
    let r = row_of c.args.rect c.args.row in
    let old = c.args.self.now in
    let grid = c.put.ensures.grid in
    row_lays r old c.args.cells.now grid free refl paired wide c.put.new.self
    (c.put.ensures.value (line_inside r old c.args.cells.now grid free refl paired wide)
    (cells_fit r old c.args.cells.now grid free refl paired wide))
