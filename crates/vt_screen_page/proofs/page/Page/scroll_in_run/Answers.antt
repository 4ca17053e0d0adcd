use Rattle.std.proofs.Common.{ap, ◌∙◌, length, false, arith}
use Rattle.cells.specs.Line.{narrow_cells, plain}
use Rattle.cells.specs.Page.{page_from}
use Rattle.vt_screen_page.specs.Store.{turned_lines}
use Rattle.vt_screen_page.proofs.Stored.{view_grid}
use Rattle.vt_screen_page.proofs.Turning.{begun_line, begun_in_is}
use Rattle.vt_screen_page.proofs.page.Page.scroll_in_run.Goals as goal

pub invariant_of-self : goal.invariant_of-self
invariant_of-self c = (begun_line (narrow_cells c.args.codes.now plain false) (length c.args.codes.now) _
    (c.exchange.ensures.width ∙ c.requires.width) c.clear_behind_run.ensures c.self.view_is c.self.invariant
    (omega arith) c.index-place.ensures).store

pub returns-clause-lines : goal.returns-clause-lines
returns-clause-lines c = c.turn.ensures.lines
    ∙ ap (page_from (turned_lines 0 c.args.bottom 1))
    (begun_line (narrow_cells c.args.codes.now plain false) (length c.args.codes.now) _
    (c.exchange.ensures.width ∙ c.requires.width) c.clear_behind_run.ensures c.self.view_is c.self.invariant
    (omega arith) c.index-place.ensures).lines
    ∙ begun_in_is c.args.self.now.lines (narrow_cells c.args.codes.now plain false) (length c.args.codes.now)
    c.args.bottom (view_grid c.self.view_is c.self.invariant) c.requires.inside
