use Rattle.emulator.proofs.Vocabulary.{◌≡◌, ◌<◌, length, sym, ap, ◌∙◌, arith, line_at, Page}
use Rattle.emulator.proofs.Backs.{length-moved, moved-above, kept-line}
use Rattle.emulator.proofs.moved_page.MovedPage.line.Goals as goal

pub row-requires : goal.row-requires
row-requires c =
    let n : length c.args.self.now ≡ length c.self.inside.screen.now.screen.page = ap length (sym c.self.view_is)
    ∙ length-moved c.self.inside.back c.self.inside.screen.now.screen in
    omega (arith, c.self.invariant.sound.sized.height)

pub returns-then-line-self : goal.returns-then-line-self
returns-then-line-self c =
    let n : length c.args.self.now ≡ length c.self.inside.screen.now.screen.page = ap length (sym c.self.view_is)
    ∙ length-moved c.self.inside.back c.self.inside.screen.now.screen in
    let l : c.args.line < length c.self.inside.screen.now.screen.page = omega arith in
    kept-line c.kept.result c.unwrap_or.result _ c.self.inside.screen.now.screen.kept _
    (omega (arith, c.self.invariant.few)) c.kept.ensures c.unwrap_or.ensures
    ∙ sym
    (moved-above c.self.inside.back c.args.line c.self.inside.screen.now.screen c.self.invariant.few
    c.if-line-self.true l)
    ∙ ap (λ (page : Page). line_at page c.args.line) c.self.view_is
