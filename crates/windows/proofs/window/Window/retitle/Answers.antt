use Rattle.windows.proofs.Vocabulary.{refl, true, ◌≡◌, sym, ◌∙◌, is_title}
use Rattle.windows.proofs.Writings.{stands_retitled, retitled_ok}
use Rattle.windows.proofs.window.Window.retitle.Goals as goal

pub returns-clause-answer : goal.returns-clause-answer
returns-clause-answer c = λ m st.
    let good : is_title c.args.title.now ≡ true = sym c.is_title.ensures ∙ c.if-not-is_title.false in (
      _,
      retitled_ok m c.args.title.now good,
      stands_retitled m c.args.self.now _ c.args.title.now st refl refl
          c.in_ok-self.ensures.ok refl,
    )
