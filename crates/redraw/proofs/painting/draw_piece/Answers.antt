use Rattle.redraw.proofs.Vocabulary.{◌≡◌, ◌+◌, ◌<◌, ◌≤◌, ℕ, length, List, arith, refl, sym, ap, ◌∙◌, subst, Cell}
use Rattle.redraw.proofs.Vocabulary.{get_or_default, blank, cell_at, is_right, IsDrawableCell, width_of}
use Rattle.redraw.proofs.Pieces.{blank_piece, cell_piece, cell_fits, cell_stands}
use Rattle.redraw.proofs.painting.draw_piece.Goals.{then-column-erased, else-column-erased}
use Rattle.redraw.proofs.painting.draw_piece.Goals as goal

pub returns-then-column-blanks-clause-draws : goal.returns-then-column-blanks-clause-draws
returns-then-column-blanks-clause-draws c old new rows before lh rh lines whole differs =
    let columns : ℕ = length c.args.after.now in
    let n : ℕ = c.blank_run-blanks.result in
    let some : 0 < n = omega arith in
    let end : c.args.run.0 + n ≡ columns = omega arith in
    blank_piece old new rows columns c.args.pen.now c.erase_to_end.new.self c.args.line c.args.run.0 n columns
    c.args.after.now c.args.out.now.items c.erase_to_end.new.out.items
    lines.new_is lines.new_paired (sym end) some (omega arith) c.blank_run-blanks.ensures.blanks
    (c.in_ok-erase_to_end.ensures.takes old new rows columns n lh rh some end (omega (arith, c.requires.few)))

pub returns-then-erased-fewest-clause-draws : goal.returns-then-erased-fewest-clause-draws
returns-then-erased-fewest-clause-draws c old new rows before lh rh lines whole differs =
    let columns : ℕ = length c.args.after.now in
    let n : ℕ = c.min-erased.result in
    let some : 0 < n = elim c.if-column-erased.branch
    [ then-column-erased w ↦ omega arith | else-column-erased w ↦ omega arith ] in
    let room : c.args.run.0 + n ≤ columns = omega arith in
    blank_piece old new rows columns c.args.pen.now c.erase_cells.new.self c.args.line c.args.run.0 n (c.args.run.0 + n)
    c.args.after.now c.args.out.now.items c.erase_cells.new.out.items
    lines.new_is lines.new_paired refl some room (λ k i j. c.blank_run-blanks.ensures.blanks k i (omega arith))
    (c.in_ok-erase_cells.ensures.takes old new rows columns lh rh some room (omega (arith, c.requires.few)))

pub returns-clause-draws : goal.returns-clause-draws
returns-clause-draws c old new rows before lh rh lines whole differs =
    let cells : List Cell = c.args.after.now in
    let inside : c.args.run.0 < length cells = omega (arith, c.requires.inside, c.requires.end) in
    let cell : Cell = c.index-after-column.result in
    let here : cell ≡ cell_at cells c.args.run.0 = c.index-after-column.is
    ∙ get_or_default cells c.args.run.0 cell blank inside in
    let fits : c.args.run.0 + width_of cell.shape ≤ length cells = rw here
    (cell_fits cells c.args.run.0 lines.new_paired inside) in
    let width = c.columns_of.ensures.value in
    cell_piece old new rows c.args.pen.now c.put_cell.new.self c.args.line c.args.run.0
    (c.args.run.0 + c.columns_of.result) cell cells c.args.out.now.items c.put_cell.new.out.items
    here lines.new_is lines.new_paired lines.new_drawable whole inside (ap (λ k. c.args.run.0 + k) width)
    (c.in_ok-put_cell.ensures.takes old new rows lh rh fits (omega (arith, c.requires.few))
    (subst IsDrawableCell (sym here) (lines.new_drawable.printed c.args.run.0 inside))
    (ap (λ (z : Cell). is_right z.shape) here ∙ whole)
    (cell_stands old new c.args.line before cells lines c.args.run.0 cell here) differs)
