use Rattle.std.proofs.Common.{◌≡◌, ◌∙◌, ℕ, List, arith, refl, ap, length, subst}
use Rattle.cells.specs.declared.cell.Cell.{Cell}
use Rattle.cells.specs.Page.{line_at}
use Rattle.web_page.specs.Showing.{HasLooked}
use Rattle.web_page.proofs.Looking.{one_more}
use Rattle.web_page.proofs.sheet.look_at_rows.Goals as goal

pub loop-number-preserved : goal.loop-number-preserved
loop-number-preserved c =
    let page : c.page-page.result ≡ c.args.emulator.now.screen.page = c.page-page.ensures.page refl in
    one_more c.loop-number.number c.args.emulator.now.screen.page c.line.result.now c.args.moment
    c.args.rows.now.items c.loop-number.rows.items c.look_at.new.rows.items c.loop-number.is_new
    c.in_ok-is_new.field-0 (omega (arith, ap length page))
    (c.line.ensures ∙ ap (λ (p : List (List Cell)). line_at p c.loop-number.number) page) c.loop-number.invariant
    c.in_ok-is_new.ensures.ok

pub returns : goal.returns
returns c =
    subst (λ (n : ℕ). HasLooked n c.args.emulator.now.screen.page c.args.moment c.args.rows.now.items
    c.loop-number.rows.items c.loop-number.is_new)
    (omega (arith, ap length (c.page-page.ensures.page refl))) c.loop-number.invariant
