use Rattle.session_commands.proofs.Vocabulary.{◌∙◌, [], ◌∷◌, ◌++◌, ap, sym, subst, take, get_or, append_assoc, arith}
use Rattle.session_commands.proofs.Vocabulary.{take_all, Closed, followed_by, StandsFor, LocksStandFor, closed_acts}
use Rattle.windows.specs.declared.window.Window.{Window}
use Rattle.session_commands.proofs.Pushed.{pushed}
use Rattle.session_commands.proofs.Parting.{at_place}
use Rattle.session_commands.proofs.Ending.{closed_more, history_more}
use Rattle.session_commands.proofs.closing.note_closed.Goals as goal

pub returns-clause-acl : goal.returns-clause-acl
returns-clause-acl c = λ edition owner h st.
    subst (λ ws. StandsFor c.loop-i.acl edition owner (followed_by h (closed_acts ws)))
    (take_all c.loop-i.i c.args.windows.now c.loop-i-test.false) (c.loop-i.invariant.3 edition owner h st)

pub returns-clause-locks : goal.returns-clause-locks
returns-clause-locks c = λ edition owner h st.
    subst (λ ws. LocksStandFor c.loop-i.locks edition owner (followed_by h (closed_acts ws)))
    (take_all c.loop-i.i c.args.windows.now c.loop-i-test.false) (c.loop-i.invariant.4 edition owner h st)

pub loop-i-preserved : goal.loop-i-preserved
loop-i-preserved c =
    let ws = c.args.windows.now in
    let i = c.loop-i.i in
    let w : Window = get_or ws i c.index-windows-i.result in
    let acts = c.args.acts.now.items in
    let at = at_place ws i w c.loop-i-test.true (ap (λ x. get_or ws i x) c.index-windows-i.is) in (
      pushed c.push.result c.loop-i.acts.items c.push.new.self.items (Closed w.serial)
          (c.push.ensures.succeeds (omega arith)) c.push.ensures.items
          ∙ ap (λ xs. xs ++ Closed w.serial ∷ []) c.loop-i.invariant.0
          ∙ append_assoc acts (closed_acts (take i ws)) (Closed w.serial ∷ [])
          ∙ ap (λ xs. acts ++ xs) (sym (closed_more (take i ws) w) ∙ ap closed_acts (sym at)),
      omega arith,
      omega arith,
      λ edition owner h st.
          subst (λ ys. StandsFor c.window_closed.new.self edition owner (followed_by h (closed_acts ys))) (sym at)
          (subst (λ k. StandsFor c.window_closed.new.self edition owner k) (sym (history_more h (take i ws) w))
          (c.window_closed.ensures edition owner (followed_by h (closed_acts (take i ws)))
          (c.loop-i.invariant.3 edition owner h st))),
      λ edition owner h st.
          subst (λ ys. LocksStandFor c.closed.new.self edition owner (followed_by h (closed_acts ys))) (sym at)
          (subst (λ k. LocksStandFor c.closed.new.self edition owner k) (sym (history_more h (take i ws) w))
          (c.closed.ensures edition owner (followed_by h (closed_acts (take i ws)))
          (c.loop-i.invariant.4 edition owner h st))),
    )
