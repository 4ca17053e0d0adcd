use Rattle.std.proofs.Common.{◌≡◌}
use Rattle.cells.specs.Resizing.{page_resized}
use Rattle.vt_screen_page.specs.Store.{lines_in_order}
use Rattle.vt_screen_page.proofs.store.resized_lines.Given as goal

abbrev pub invariant-loop-row : goal.invariant-loop-row
invariant-loop-row l = l.lines.items ≡ page_resized l.row l.columns (lines_in_order l.stored l.places)
