use Rattle.std.proofs.Common.{◌≡◌}
use Rattle.cells.specs.Page.{page_from}
use Rattle.cells.specs.Moves.{erased_lines}
use Rattle.vt_screen_page.specs.Store.{IsStore, lines_in_order}
use Rattle.vt_screen_page.proofs.page.Page.erase_lines.Given as goal

abbrev pub invariant-loop-line : goal.invariant-loop-line
invariant-loop-line l = record {
  store : IsStore l.self-inside.stored.items l.self-inside.places.items;
  lines : lines_in_order l.self-inside.stored.items l.self-inside.places.items ≡ page_from (erased_lines l.first l.line)
      l.fn.self.lines;
  places : l.self-inside.places.items ≡ l.fn.self.places;
}
