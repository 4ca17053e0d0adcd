use Rattle.session_events.proofs.Vocabulary.{◌≡◌, ◌∙◌, ◌++◌, ap, refl, left_acts, all_left, focuses_of}
use Rattle.session_events.proofs.Left.{left_same, has_ended}
use Rattle.session_events.proofs.leaving.leave.Goals as goal

pub returns : goal.returns
returns c = λ t d focuses st.
    let s = c.args.state.now in
    let acts = all_left c.as_slice.result.now c.as_slice-2.result.now in
    let left : acts ≡ left_acts t.clients d.tables.clients =
    ap (λ fs. all_left fs c.as_slice-2.result.now) (c.as_slice.ensures.focuses ∙ focuses)
    ∙ ap (all_left (focuses_of t.clients)) c.as_slice-2.ensures
    ∙ left_same t.clients d.tables.clients s.clients st.clients in
    record {
      stands = has_ended t d s c.note_left.new.locks acts left st c.note_left.ensures.locks;
      acts = c.note_left.ensures.acts ∙ ap (λ xs. c.args.made.now.acts.items ++ xs) left;
      effects = refl;
    }
