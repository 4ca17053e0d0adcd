use Rattle.std.proofs.Common.{sym, ◌∙◌, arith}
use Rattle.rebuild.proofs.Same.{page-same}
use Rattle.rebuild.proofs.sameness.has_same_page.Goals as goal

pub returns : goal.returns
returns c = λ h.
    page-same c.args.a.now.screen.state.rows c.args.a.now.screen.page c.args.b.now.screen.page
    c.rows-rows.ensures.sound.sized.height (c.rows.ensures.sound.sized.height ∙ sym c.requires)
    (λ k l. c.loop-line.invariant k (omega arith))
