use Rattle.server_loop.proofs.Vocabulary.{◌∙◌, refl, sym}
use Rattle.server_loop.proofs.Keys.{match_none, match_some}
use Rattle.server_loop.proofs.own.Loop.draw_all.Goals as goal

pub returns-in_default : goal.returns-in_default
returns-in_default g c = match_none _ _ _ (sym c.drawn_from.ensures ∙ c.in_default.is) refl

pub returns : goal.returns
returns g c = match_some _ c.in-Some.from _ _ (sym c.in-Some.ensures) c.draw_round.ensures
