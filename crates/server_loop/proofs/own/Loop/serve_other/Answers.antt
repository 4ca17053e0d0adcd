use Rattle.server_loop.proofs.Vocabulary.{◌≡◌, ◌∙◌, true, false, refl, sym, rules}
use Rattle.server_loop.proofs.Telling.{if_false, if_true}
use Rattle.server_loop.proofs.own.Loop.serve_other.Goals as goal

pub returns-then-is_window : goal.returns-then-is_window
returns-then-is_window g c =
    let yes : c.is_window.result ≡ true = search rules in
    record { outcome = if_true _ _ _ (sym c.is_window.ensures ∙ yes) refl }

pub returns : goal.returns
returns g c =
    let no : c.is_window.result ≡ false = search rules in
    record { outcome = if_false _ _ _ (sym c.is_window.ensures ∙ no) c.serve.ensures.serves }
