use Rattle.redraw.proofs.Vocabulary.{◌≡◌, ◌<◌, ◌≤◌, List, length, sym, ap, ◌∙◌, arith, ⊎_elim, cases_lt, cases_eq, Cell}
use Rattle.redraw.proofs.Vocabulary.{cell_at, unprotected, cell_at_past, seen_at}
use Rattle.redraw.proofs.shadow.first_unlike.Goals as goal

pub loop-line-preserved : goal.loop-line-preserved
loop-line-preserved c k column h =
    let a : List Cell = c.row.result.now in
    let b : List Cell = c.row-in-loop-line.result.now in
    let width : length a ≡ length b = c.row.ensures.width ∙ sym c.requires.columns_are
    ∙ sym c.row-in-loop-line.ensures.width in
    let here : unprotected (cell_at a column) ≡ unprotected (cell_at b column) = ⊎_elim
    (λ (inside : column < length a). c.in_default.ensures.none column (omega arith) inside)
    (λ (past : length a ≤ column). ap unprotected (cell_at_past a column past)
    ∙ sym (ap unprotected (cell_at_past b column (omega arith))))
    (cases_lt column (length a)) in
    ⊎_elim
    (λ (e : k ≡ c.loop-line.line). ap (λ l. seen_at c.args.old.now.page l column) e
    ∙ ap (λ (z : List Cell). unprotected (cell_at z column)) (sym c.row.ensures.cells) ∙ here
    ∙ ap (λ (z : List Cell). unprotected (cell_at z column)) c.row-in-loop-line.ensures.cells
    ∙ sym (ap (λ l. seen_at c.args.new.now.page l column) e))
    (λ (ne : k ≡ c.loop-line.line → ⊥). c.loop-line.invariant k column (omega arith))
    (cases_eq k c.loop-line.line)
