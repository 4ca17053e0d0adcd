use Rattle.vt_screen.proofs.Vocabulary.{◌≡◌, ◌<◌, refl, sym, ap, ◌∙◌, arith, length, line_at, unprotected_lines}
use Rattle.cells.proofs.Pages.{length-page_from, width-page_from}
use Rattle.vt_screen.proofs.Unprotected.{unprotected_none, unprotected_more}
use Rattle.vt_screen.proofs.erasing.erase_unprotected_lines.Goals as goal

pub loop-line-init : goal.loop-line-init
loop-line-init c = record {
  lines = sym
      (unprotected_none c.args.page.now.lines c.args.state.now.rows c.args.state.now.columns c.args.first
      c.requires.page);
  places = refl;
}

pub erase_unprotected-requires-clause-line_inside : goal.erase_unprotected-requires-clause-line_inside
erase_unprotected-requires-clause-line_inside c =
    let page = c.args.page.now.lines in
    let height : length c.loop-line.page.lines ≡ length page =
    ap length c.loop-line.invariant.lines
    ∙ length-page_from (unprotected_lines page c.args.state.now.columns c.args.first c.loop-line.line) page in
    let rows : length page ≡ c.args.state.now.rows = c.requires.page.height in
    omega arith

pub erase_unprotected-requires-clause-inside : goal.erase_unprotected-requires-clause-inside
erase_unprotected-requires-clause-inside c =
    let page = c.args.page.now.lines in
    let line = c.loop-line.line in
    let width : length (line_at c.loop-line.page.lines line) ≡ length (line_at page line) =
    ap (λ p. length (line_at p line)) c.loop-line.invariant.lines
    ∙ width-page_from (unprotected_lines page c.args.state.now.columns c.args.first line) page line in
    let inside : line < c.args.state.now.rows = omega arith in
    let columns : length (line_at page line) ≡ c.args.state.now.columns = c.requires.page.width line inside in
    omega arith

pub loop-line-preserved : goal.loop-line-preserved
loop-line-preserved c =
    let inside : c.loop-line.line < c.args.state.now.rows = omega arith in
    record {
      lines = c.erase_unprotected.ensures.lines
          ∙ unprotected_more c.args.page.now.lines c.loop-line.page.lines c.args.state.now.rows c.args.state.now.columns
          c.args.first c.loop-line.line c.requires.page (omega arith) inside c.loop-line.invariant.lines;
      places = c.erase_unprotected.ensures.places ∙ c.loop-line.invariant.places;
    }
