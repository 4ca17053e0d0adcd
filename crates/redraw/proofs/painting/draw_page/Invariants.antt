use Rattle.redraw.proofs.Vocabulary.{length, line_at, HaveHalves, IsDrawable, Takes, HasPage, DrawsPage}
use Rattle.redraw.proofs.painting.draw_page.Given as goal

abbrev pub invariant-loop-line : goal.invariant-loop-line
invariant-loop-line l = HaveHalves l.old.page → IsDrawable l.new →
    Takes l.old.page l.new.page (HasPage (length l.new.page) (length (line_at l.new.page 0)) l.fn.pen l.old.page)
    (DrawsPage (length l.new.page) (length (line_at l.new.page 0)) l.pen l.old.page l.new.page l.line) l.fn.out.items
    l.out.items
