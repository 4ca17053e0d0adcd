use Rattle.windows.proofs.Vocabulary.{◌∙◌, filter, is_among, nearest, All, Lowest}
use Rattle.windows.proofs.Nearest.{seen, lowest_of_all}
use Rattle.windows.proofs.windows.Windows.lowest.Goals as goal

pub returns : goal.returns
returns c = λ rows st.
    seen (λ ws. nearest Lowest (filter (is_among All) ws)) c.args.self.now c.as_slice.result.now _ _ c.nearest.ensures
    (c.as_slice.ensures ∙ c.self.view_is)
    (lowest_of_all rows c.args.self.now st)
