use Rattle.client_words.proofs.Shown.{all_kept}
use Rattle.client_words.proofs.visible.nothing_controls.Goals as goal

pub returns : goal.returns
returns c = λ text. all_kept 0 text
