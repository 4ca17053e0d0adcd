use Rattle.session_view.proofs.Vocabulary.{◌≡◌, ◌∙◌, ◌∷◌, [], List, ℕ, ap, refl, is_ok, Deliver, if_true, Made}
use Rattle.std.proofs.Common.{◌++◌}
use Rattle.session_model.specs.declared.event.Effect.{Effect}
use Rattle.session_view.proofs.Delivering.{frame_drawn, leads_from}
use Rattle.session_view.proofs.following.deliver.Goals as goal

pub returns-clause-ok : goal.returns-clause-ok
returns-clause-ok c = λ t m st at leads.
    let f : Made = c.args.frame.now in
    let bytes : c.in_ok-bytes.bytes ≡ f.bytes = c.in_ok-bytes.ensures ∙ c.bytes.ensures in
    let drawn = c.in_ok-follow.ensures.drawn leads.granted.drawable
    (leads_from t c.args.state.now c.args.client m f.before st at leads.before) t.clients m st.clients at in
    let effects = c.push.ensures.items
    ∙ (if_true (is_ok c.push.result) _ _ (ap (λ r. is_ok r) c.unwrap.ensures)
    ∙ (ap (λ (es : List Effect). es ++ Deliver c.args.client c.in_ok-bytes.bytes ∷ []) c.in_ok-reserve.ensures.items
    ∙ ap (λ (bs : List ℕ). c.args.made.now.effects.items ++ Deliver c.args.client bs ∷ []) bytes)) in
    frame_drawn t c.args.state.now c.args.client m f.view st at leads.granted.granted
    c.args.made.now f.bytes c.follow.new.self _ drawn effects refl
