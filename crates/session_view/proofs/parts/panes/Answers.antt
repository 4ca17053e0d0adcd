use Rattle.session_view.proofs.Vocabulary.{ap, ◌∙◌, ◌+◌, length, length_push}
use Rattle.session_view.proofs.Panes.{pane_more, panes_all}
use Rattle.session_view.proofs.parts.panes.Goals as goal

pub loop-part-preserved : goal.loop-part-preserved
loop-part-preserved c = record {
  each = ap length c.in_ok-push.ensures.items
      ∙ length_push c.loop-part.made.items c.pane.result
      ∙ ap (λ n. n + 1) c.loop-part.invariant.each;
  shown = λ t user shown matched.
      pane_more t user shown c.args.parts.now c.loop-part.part-index c.part-item.result
      c.loop-part.made.items c.push.new.self.items c.pane.result matched c.loop-part-test.true
      c.part-item.is (c.loop-part.invariant.shown t user shown matched) (λ s. c.pane.ensures t user s)
      c.in_ok-push.ensures.items;
}

pub returns-clause-shown : goal.returns-clause-shown
returns-clause-shown c = λ t user shown matched.
    panes_all t user shown c.args.parts.now c.loop-part.part-index c.loop-part.made.items matched
    c.loop-part-test.false (c.loop-part.invariant.shown t user shown matched)
