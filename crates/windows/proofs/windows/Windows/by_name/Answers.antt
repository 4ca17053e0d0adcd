use Rattle.windows.proofs.Vocabulary.{◌∙◌, filter, option_or, option_and_then, is_among, nearest, numbered, Titled}
use Rattle.windows.proofs.Vocabulary.{Lowest}
use Rattle.windows_model.specs.Naming.{spelled}
use Rattle.windows.proofs.Nearest.{seen, or_found, both_or, spelled_both, lowest_titled}
use Rattle.windows.proofs.windows.Windows.by_name.Goals as goal

pub returns : goal.returns
returns c = λ rows st.
    seen (λ ws. option_or (option_and_then (numbered ws) (spelled c.args.word.now))
    (nearest Lowest (filter (is_among (Titled c.args.word)) ws))) c.args.self.now c.as_slice-rows.result.now _ _
    (or_found c.numbered_by.result c.nearest-titled.result c.or.result _ _ c.or.ensures c.numbered_by.ensures
    c.nearest-titled.ensures) (c.as_slice-rows.ensures ∙ c.self.view_is)
    (both_or _ _ _ _ (spelled_both (spelled c.args.word.now) rows c.args.self.now st)
    (lowest_titled c.args.word rows c.args.self.now st))
