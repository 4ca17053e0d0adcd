use Rattle.session_events.proofs.Vocabulary.{◌≡◌, ◌∷◌, ◌++◌, [], ℕ, List, true, false, length, refl, ap, sym, ◌∙◌}
use Rattle.session_events.proofs.Vocabulary.{subst, append-nil, ◌==◌, reads, Effect, Input, terminal_of}
use Rattle.session_events.proofs.Feeding.{fed_done, no_input, some_input, pushed}
use Rattle.session_events.proofs.attaching.output.Goals as goal

pub returns-then-is_empty-clause-answer : goal.returns-then-is_empty-clause-answer
returns-then-is_empty-clause-answer c = λ t w st fit at.
    let window = c.args.window in
    let before = c.args.made.now in
    let reports = (reads (terminal_of w) c.args.bytes.now).reports in
    let input_is : c.from_vec-input.result ≡ reports =
    c.from_vec-input.ensures
    ∙ (c.in_ok-feed_all.ensures.reports t.windows w st.windows at
    ∙ ap (λ bs. bs ++ reports) c.new-reports.ensures.items) in
    let none : (length reports == 0) ≡ true =
    subst (λ (bs : List ℕ). (length bs == 0) ≡ true) input_is
    (sym c.is_empty.ensures ∙ c.if-is_empty.true) in (
      refl,
      fed_done t window w c.args.bytes.now at c.in_ok-feed_all.field-0 c.args.state.now
          c.feed_all.new.self before (record before { effects = c.reserve.new.self }) st
          (c.in_ok-feed_all.ensures.answer t.windows st.windows) refl
          (c.in_ok-reserve.ensures.items
          ∙ (sym (append-nil _)
          ∙ ap (λ (es : List Effect). before.effects.items ++ es)
          (sym (no_input window reports none)))),
    )

pub returns-clause-answer : goal.returns-clause-answer
returns-clause-answer c = λ t w st fit at.
    let window = c.args.window in
    let before = c.args.made.now in
    let reports = (reads (terminal_of w) c.args.bytes.now).reports in
    let input_is : c.from_vec-input.result ≡ reports =
    c.from_vec-input.ensures
    ∙ (c.in_ok-feed_all.ensures.reports t.windows w st.windows at
    ∙ ap (λ bs. bs ++ reports) c.new-reports.ensures.items) in
    let some : (length reports == 0) ≡ false =
    subst (λ (bs : List ℕ). (length bs == 0) ≡ false) input_is
    (sym c.is_empty.ensures ∙ c.if-is_empty.false) in (
      refl,
      fed_done t window w c.args.bytes.now at c.in_ok-feed_all.field-0 c.args.state.now
          c.feed_all.new.self before (record before { effects = c.push.new.self }) st
          (c.in_ok-feed_all.ensures.answer t.windows st.windows) refl
          (pushed c.push.result c.unwrap.result c.push.new.self.items
          (c.reserve.new.self.items ++ Input window c.from_vec-input.result ∷ [])
          c.reserve.new.self.items c.unwrap.ensures c.push.ensures.items
          ∙ (ap (λ (es : List Effect). es ++ Input window c.from_vec-input.result ∷ [])
          c.in_ok-reserve.ensures.items
          ∙ (ap (λ (bs : List ℕ). before.effects.items ++ Input window bs ∷ []) input_is
          ∙ ap (λ (es : List Effect). before.effects.items ++ es)
          (sym (some_input window reports some))))),
    )
