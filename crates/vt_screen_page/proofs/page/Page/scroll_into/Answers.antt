use Rattle.std.proofs.Common.{ap, ◌∙◌, length, replicate, arith}
use Rattle.std.proofs.lemmas.List.{length-replicate}
use Rattle.cells.specs.Line.{blank}
use Rattle.cells.specs.Page.{line_at, page_from}
use Rattle.cells.proofs.Splicing.{IsPaired-blanks}
use Rattle.vt_screen_page.specs.Store.{turned_lines}
use Rattle.vt_screen_page.proofs.Stored.{view_grid, replaced}
use Rattle.vt_screen_page.proofs.Turning.{scrolled_in_is}
use Rattle.vt_screen_page.proofs.page.Page.scroll_into.Goals as goal

pub invariant_of-self : goal.invariant_of-self
invariant_of-self c = (replaced (replicate (length (line_at c.args.self.now.lines 0)) blank)
    (c.clear.ensures ∙ ap (λ n. replicate n blank) (c.exchange.ensures.width ∙ c.requires.width))
    (length-replicate (length (line_at c.args.self.now.lines 0)) blank)
    (IsPaired-blanks (length (line_at c.args.self.now.lines 0))) c.self.view_is c.self.invariant (omega arith)
    c.index-place.ensures).store

pub returns-clause-lines : goal.returns-clause-lines
returns-clause-lines c = c.turn.ensures.lines
    ∙ ap (page_from (turned_lines 0 c.args.bottom 1))
    (replaced (replicate (length (line_at c.args.self.now.lines 0)) blank)
    (c.clear.ensures ∙ ap (λ n. replicate n blank) (c.exchange.ensures.width ∙ c.requires.width))
    (length-replicate (length (line_at c.args.self.now.lines 0)) blank)
    (IsPaired-blanks (length (line_at c.args.self.now.lines 0))) c.self.view_is c.self.invariant (omega arith)
    c.index-place.ensures).lines
    ∙ scrolled_in_is c.args.bottom c.args.self.now.lines (view_grid c.self.view_is c.self.invariant) c.requires.inside
