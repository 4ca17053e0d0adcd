use Rattle.session_view.proofs.Vocabulary.{List, refl, subst, ap, ◌∙◌, ◌+◌, length, length_push, take_all, Shown}
use Rattle.session_view.proofs.Vocabulary.{Matched, ShowsPart}
use Rattle.session_view.proofs.Panes.{part_more}
use Rattle.session_view.proofs.parts.parts.Goals as goal

pub loop-region-preserved : goal.loop-region-preserved
loop-region-preserved c = record {
  each = ap length c.in_ok-push.ensures.items
      ∙ length_push c.loop-region.made.items c.in_ok-part_in.field-0
      ∙ ap (λ n. n + 1) c.loop-region.invariant.each;
  shown = λ t st fit.
      part_more (ShowsPart t c.args.user) c.args.shown.now c.loop-region.region-index _ _
      c.loop-region.made.items c.push.new.self.items c.in_ok-part_in.field-0 c.loop-region-test.true
      refl (c.loop-region.invariant.shown t st fit) (c.in_ok-part_in.ensures t st fit)
      c.in_ok-push.ensures.items;
}

pub returns-clause-shown : goal.returns-clause-shown
returns-clause-shown c = λ t st fit.
    subst
    (λ (shown : List Shown). Matched (ShowsPart t c.args.user) shown c.loop-region.made.items)
    (take_all c.loop-region.region-index c.args.shown.now c.loop-region-test.false)
    (c.loop-region.invariant.shown t st fit)
