use Rattle.session_view.proofs.Vocabulary.{refl, sym, ◌∙◌, subst, List, take_all, Shown, part_shown, ShowBoth}
use Rattle.session_view.proofs.Alike.{alike_more, alike_each}
use Rattle.session_view.proofs.sameness.show_both.Goals as goal

pub loop-region-preserved : goal.loop-region-preserved
loop-region-preserved c = λ t st fit.
    alike_more (part_shown t c.args.user) (part_shown t c.args.other) c.args.shown.now c.loop-region.region-index _ _
    c.loop-region-test.true refl ((c.shows_both.ensures t st fit).0 c.if-not-shows_both.false)
    (c.loop-region.invariant t st fit)

pub returns-then-not-shows_both : goal.returns-then-not-shows_both
returns-then-not-shows_both c = λ t st fit. (
  (λ no. absurd (cc (no))),
  (λ same.
      let each = alike_each (part_shown t c.args.user) (part_shown t c.args.other) c.args.shown.now
      c.loop-region.region-index _ _
      c.loop-region-test.true refl same in
      sym c.if-not-shows_both.true ∙ (c.shows_both.ensures t st fit).1 each),
)

pub returns : goal.returns
returns c = λ t st fit. (
  (λ yes. subst (λ (shown : List Shown). ShowBoth t c.args.user c.args.other shown)
      (take_all c.loop-region.region-index c.args.shown.now c.loop-region-test.false)
      (c.loop-region.invariant t st fit)),
  (λ same. refl),
)
