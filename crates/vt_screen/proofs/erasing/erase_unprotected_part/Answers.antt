use Rattle.vt_screen.proofs.Vocabulary.{refl, unprotected_erased, edited, line_at, IsPage-page_from}
use Rattle.vt_screen.proofs.erasing.erase_unprotected_part.Goals as goal

pub returns-clause-value : goal.returns-clause-value
returns-clause-value c = rw (c.erase_unprotected.ensures.lines, c.first_column-from.ensures, c.end_column-end.ensures)
    refl

pub returns-clause-page : goal.returns-clause-page
returns-clause-page c =
    let s = c.args.state.now in
    let page = c.args.page.now.lines in
    rw c.erase_unprotected.ensures.lines
    (IsPage-page_from
    (edited s.line (unprotected_erased (line_at page s.line) c.first_column-from.result c.end_column-end.result))
    s.rows s.columns page c.requires.page)
