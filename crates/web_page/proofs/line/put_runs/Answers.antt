use Rattle.std.proofs.Common.{◌≡◌, ◌++◌, List, arith, subst}
use Rattle.std.specs.String.{string_bytes}
use Rattle.cells.specs.declared.cell.Cell.{Cell}
use Rattle.web_page.specs.Runs.{Run, after_cell, rest_of}
use Rattle.web_page.proofs.Writing.{cell_more, cells_end, cells_start}
use Rattle.web_page.proofs.line.put_runs.Goals as goal

pub loop-cell-init : goal.loop-cell-init
loop-cell-init c = cells_start c.args.cells.now (string_bytes c.args.out.now)

pub loop-cell-preserved : goal.loop-cell-preserved
loop-cell-preserved c =
    cell_more c.args.cells.now c.loop-cell.cell-index c.cell-item.result (string_bytes c.loop-cell.out)
    (string_bytes c.put_next.new.out) _ c.loop-cell.last c.in_ok-last.last (omega arith) c.loop-cell.invariant
    (subst
    (λ (cell : Cell). (rs : List Run) → string_bytes c.put_next.new.out ++ rest_of c.in_ok-last.last rs
    ≡ string_bytes c.loop-cell.out ++ rest_of c.loop-cell.last (after_cell cell rs))
    c.cell-item.is c.in_ok-last.ensures)

pub returns : goal.returns
returns c =
    cells_end c.args.cells.now c.loop-cell.cell-index (string_bytes c.loop-cell.out) (string_bytes c.close_run.new.out)
    _ c.loop-cell.last (omega arith) c.loop-cell.invariant c.in_ok-close_run.ensures
