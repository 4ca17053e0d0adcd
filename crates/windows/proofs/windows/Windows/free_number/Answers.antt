use Rattle.windows.proofs.Vocabulary.{◌∙◌, ap, List, first_free, Window}
use Rattle.windows.proofs.Nearest.{free_both}
use Rattle.windows.proofs.windows.Windows.free_number.Goals as goal

pub returns : goal.returns
returns c = λ rows st. c.first_free.ensures
    ∙ ap (λ (ws : List Window). first_free ws) (c.as_slice.ensures ∙ c.self.view_is) ∙ free_both rows c.args.self.now st
