use Rattle.cells.proofs.Vocabulary.{◌≡◌, ◌+◌, ◌<◌, ◌≤◌, length, replicate, get_or, List, sym, subst, ap, ◌∙◌, arith}
use Rattle.cells.proofs.Vocabulary.{get_or_default, Cell, blank, cell_at, cells_from, IsPaired, spliced}
use Rattle.cells.proofs.Vocabulary.{unprotected_erased}
use Rattle.cells.proofs.Settling.{IsPaired-cells_from, length-cells_from}
use Rattle.cells.proofs.Erasing.{erase_none, erase_one, erase_kept}
use Rattle.cells.proofs.edits.erase_unprotected.Goals as goal
use Rattle.cells.proofs.edits.erase_unprotected.Goals.{then-not-cells-column, else-not-cells-column}

pub loop-column-init : goal.loop-column-init
loop-column-init c = erase_none c.args.cells.now c.args.from c.requires.paired

pub splice-requires-clause-paired : goal.splice-requires-clause-paired
splice-requires-clause-paired c = subst IsPaired (sym c.loop-column.invariant)
    (IsPaired-cells_from (unprotected_erased c.args.cells.now c.args.from c.loop-column.column) c.args.cells.now
    c.requires.paired)

pub loop-column-preserved : goal.loop-column-preserved
loop-column-preserved c =
    let cells : List Cell = c.args.cells.now in
    let within : c.loop-column.column < length cells = let i = c.requires.inside in omega arith in
    let order : c.args.from ≤ c.loop-column.column = omega arith in
    let same : length c.loop-column.cells ≡ length cells = ap length c.loop-column.invariant
    ∙ length-cells_from (unprotected_erased cells c.args.from c.loop-column.column) cells in
    let read : (d : Cell)
    → cell_at (cells_from (unprotected_erased cells c.args.from c.loop-column.column) cells) c.loop-column.column ≡
    get_or c.loop-column.cells c.loop-column.column d =
    λ d. sym
    (get_or_default c.loop-column.cells c.loop-column.column d blank (rw same within)
    ∙ ap (λ (x : List Cell). cell_at x c.loop-column.column) c.loop-column.invariant) in
    elim c.if-not-cells-column.branch [
      | then-not-cells-column w ↦ w.cells-is ∙ w.splice.ensures
          ∙ ap (λ (x : List Cell). cells_from
          (spliced c.loop-column.column (replicate 1 blank) (c.loop-column.column + 1) (length x)) x)
          c.loop-column.invariant
          ∙ erase_one cells c.args.from c.loop-column.column c.requires.paired order within
          (ap (λ (x : Cell). x.is_protected) (read _) ∙ w.if-not-cells-column.true)
      | else-not-cells-column w ↦ w.cells-is ∙ c.loop-column.invariant
          ∙ erase_kept cells c.args.from c.loop-column.column c.requires.paired within
          (ap (λ (x : Cell). x.is_protected) (read _) ∙ w.if-not-cells-column.false)
    ]
