use Rattle.std.proofs.Common.{ap, ◌∙◌, ◌+◌, ◌-◌}
use Rattle.cells.specs.Page.{page_from}
use Rattle.cells.proofs.Pages.{length-page_from}
use Rattle.vt_screen_page.specs.Store.{turned_lines}
use Rattle.vt_screen_page.proofs.Stored.{view_grid}
use Rattle.vt_screen_page.proofs.Turning.{scrolled_down_is}
use Rattle.vt_screen_page.proofs.page.Page.scroll_down.Goals as goal

pub turn-requires-clause-inside : goal.turn-requires-clause-inside
turn-requires-clause-inside c = rw c.erase_lines.ensures.lines (rw length-page_from c.requires.inside)

pub returns-clause-lines : goal.returns-clause-lines
returns-clause-lines c = c.turn.ensures.lines
    ∙ ap (page_from (turned_lines c.args.top c.args.bottom (c.args.bottom + 1 - c.args.top - c.args.count)))
    c.erase_lines.ensures.lines
    ∙ scrolled_down_is c.args.top c.args.bottom c.args.count c.requires.order c.requires.room c.args.self.now.lines
    (view_grid c.self.view_is c.self.invariant) c.requires.inside
