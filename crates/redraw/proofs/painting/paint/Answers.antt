use Rattle.redraw.proofs.Vocabulary.{ℕ, length, sym, subst, arith, IfSome, line_at, IsGridSize, place_of, Page}
use Rattle.redraw.proofs.Vocabulary.{IsInside}
use Rattle.redraw.proofs.Stages.{paint_takes}
use Rattle.redraw.proofs.painting.paint.Goals as goal

pub returns : goal.returns
returns c od nd =
    let old : Page = c.args.shown.view.now.page in
    let new : Page = c.args.new.now.page in
    let rows : ℕ = length new in
    let columns : ℕ = length (line_at new 0) in
    let m = c.modes.result in
    let m' = c.modes-2.result in
    let few : IsGridSize rows columns = c.cursor.ensures.grid.size in
    paint_takes old new rows columns c.args.pen.now c.draw_page.new.pen c.draw_cursor.new.pen m m'
    c.args.shown.view.now.has_application_arrows c.args.shown.view.now.has_application_keypad
    c.args.new.now.has_application_arrows c.args.new.now.has_application_keypad
    c.args.shown.has_cursor (place_of c.cursor.result) c.args.new.now.cursor c.args.out.now.items
    c.draw_page.new.out.items c.draw_modes.new.out.items c.draw_cursor.new.out.items
    c.modes.ensures c.modes-2.ensures c.cursor.ensures.cursor (c.in_ok-draw_page.ensures od nd)
    (c.in_ok-draw_modes.ensures old new new rows columns c.draw_page.new.pen c.args.shown.has_cursor)
    (c.in_ok-draw_cursor.ensures old new new rows columns m'.has_application_arrows m'.has_application_keypad
    (omega (arith, few.most_rows)) (omega (arith, few.most_columns))
    (subst (λ k. IfSome k (λ p. IsInside rows columns p.line p.column)) (sym c.cursor.ensures.cursor)
    c.cursor.ensures.inside))
