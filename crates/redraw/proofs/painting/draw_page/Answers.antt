use Rattle.redraw.proofs.Vocabulary.{◌≡◌, ◌<◌, ℕ, List, length, sym, subst, ◌∙◌, arith, Cell, line_at, Page, seen_at}
use Rattle.redraw.proofs.Vocabulary.{IsDrawableLine, HasHalves, AreLines, Takes, HasLine, DrawsLine, HasPage, DrawsPage}
use Rattle.redraw.proofs.Stages.{page_start, page_line}
use Rattle.redraw.proofs.painting.draw_page.Goals as goal

pub loop-line-init : goal.loop-line-init
loop-line-init c od nd =
    page_start c.args.old.now.page c.args.new.now.page (length c.args.new.now.page)
    (length (line_at c.args.new.now.page 0)) c.args.pen.now c.args.from c.args.out.now.items c.requires.inside
    c.requires.above

pub loop-line-preserved : goal.loop-line-preserved
loop-line-preserved c od nd =
    let old : Page = c.args.old.now.page in
    let new : Page = c.args.new.now.page in
    let rows : ℕ = length new in
    let columns : ℕ = length (line_at new 0) in
    let k : ℕ = c.loop-line.line in
    let inside : k < rows = omega (arith, c.loop-line-test.true, c.rows-line-end.ensures.value) in
    let old_inside : k < length old = omega (arith, c.requires.size.rows_are) in
    let few = c.rows-line-end.ensures.few in
    let a : List Cell = c.row.result.now in
    let b : List Cell = c.row-in-loop-line.result.now in
    let wide : length b ≡ columns = c.row-in-loop-line.ensures.width in
    let lines : AreLines old new k a b = record {
      old_is = sym c.row.ensures.cells;
      new_is = sym c.row-in-loop-line.ensures.cells;
      same_width = c.row.ensures.width ∙ sym c.requires.size.columns_are ∙ sym wide;
      old_paired = c.row.ensures.paired;
      new_paired = c.row-in-loop-line.ensures.paired;
      old_halves = subst HasHalves (sym c.row.ensures.cells) (od k old_inside);
      new_drawable = subst IsDrawableLine (sym c.row-in-loop-line.ensures.cells) (nd.lines k inside);
    } in
    let drawn = c.in_ok-draw_line.ensures old new rows inside (omega arith) lines in
    let drawn' = subst
    (λ (n : ℕ). Takes old new (HasLine rows n c.loop-line.pen k (seen_at old k))
    (DrawsLine rows n c.draw_line.new.pen k (seen_at old k) (seen_at new k) n) c.loop-line.out.items
    c.draw_line.new.out.items) wide drawn.takes in
    page_line old new rows columns c.args.pen.now c.loop-line.pen c.draw_line.new.pen k c.args.out.now.items
    c.loop-line.out.items c.draw_line.new.out.items inside (c.loop-line.invariant od nd) drawn'

pub returns : goal.returns
returns c od nd =
    let old : Page = c.args.old.now.page in
    let new : Page = c.args.new.now.page in
    let rows : ℕ = length new in
    let columns : ℕ = length (line_at new 0) in
    let all : c.loop-line.line ≡ rows = omega
    (arith, c.loop-line-test.false, c.loop-line.auto.line-end, c.rows-line-end.ensures.value) in
    subst
    (λ n. Takes old new (HasPage rows columns c.args.pen.now old) (DrawsPage rows columns c.loop-line.pen old new n)
    c.args.out.now.items c.loop-line.out.items) all (c.loop-line.invariant od nd)
