use Rattle.vt_screen.proofs.Vocabulary.{refl, replicate, ◌-◌, blank, spliced, edited, IsPage-page_from}
use Rattle.vt_screen.proofs.erasing.erase_part.Goals as goal

pub returns-clause-value : goal.returns-clause-value
returns-clause-value c = rw (c.erase_columns.ensures.value, c.first_column-from.ensures, c.end_column-end.ensures) refl

pub returns-clause-page : goal.returns-clause-page
returns-clause-page c =
    let s = c.args.state.now in
    let from = c.first_column-from.result in
    let end = c.end_column-end.result in
    rw c.erase_columns.ensures.value
    (IsPage-page_from (edited s.line (spliced from (replicate (end - from) blank) end s.columns)) s.rows s.columns
    c.args.page.now.lines c.requires.page)
