use Rattle.windows.proofs.Vocabulary.{◌∙◌, filter, option_or, is_among, nearest, All, Above, Lowest}
use Rattle.windows.proofs.Nearest.{seen, or_found, after_both}
use Rattle.windows.proofs.windows.Windows.after.Goals as goal

pub returns : goal.returns
returns c = λ rows w st from.
    seen (λ ws. option_or (nearest Lowest (filter (is_among (Above c.args.number)) ws))
    (nearest Lowest (filter (is_among All) ws))) c.args.self.now c.as_slice-rows.result.now _ _
    (or_found c.nearest.result c.nearest-lowest.result c.or.result _ _ c.or.ensures c.nearest.ensures
    c.nearest-lowest.ensures) (c.as_slice-rows.ensures ∙ c.self.view_is)
    (after_both c.args.number rows c.args.self.now w st from)
