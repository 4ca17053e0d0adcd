use Rattle.vt_screen.proofs.Vocabulary.{◌≡◌, page_from, unprotected_lines}
use Rattle.vt_screen.proofs.erasing.erase_unprotected_lines.Given as goal

abbrev pub invariant-loop-line : goal.invariant-loop-line
invariant-loop-line l = record {
  lines : l.page.lines ≡ page_from (unprotected_lines l.fn.page.lines l.columns l.first l.line) l.fn.page.lines;
  places : l.page.places ≡ l.fn.page.places;
}
