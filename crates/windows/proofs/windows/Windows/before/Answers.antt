use Rattle.windows.proofs.Vocabulary.{◌∙◌, filter, option_or, is_among, nearest, All, Below, Highest}
use Rattle.windows.proofs.Nearest.{seen, or_found, before_both}
use Rattle.windows.proofs.windows.Windows.before.Goals as goal

pub returns : goal.returns
returns c = λ rows w st from.
    seen (λ ws. option_or (nearest Highest (filter (is_among (Below c.args.number)) ws))
    (nearest Highest (filter (is_among All) ws))) c.args.self.now c.as_slice-rows.result.now _ _
    (or_found c.nearest.result c.nearest-highest.result c.or.result _ _ c.or.ensures c.nearest.ensures
    c.nearest-highest.ensures) (c.as_slice-rows.ensures ∙ c.self.view_is)
    (before_both c.args.number rows c.args.self.now w st from)
