use Rattle.windows.proofs.Vocabulary.{◌∙◌, numbered}
use Rattle.windows.proofs.Nearest.{seen, numbered_both}
use Rattle.windows.proofs.windows.Windows.by_number.Goals as goal

pub returns : goal.returns
returns c = λ rows st.
    seen (λ ws. numbered ws c.args.number) c.args.self.now c.as_slice.result.now _ _ c.numbered.ensures
    (c.as_slice.ensures ∙ c.self.view_is)
    (numbered_both c.args.number rows c.args.self.now st)
