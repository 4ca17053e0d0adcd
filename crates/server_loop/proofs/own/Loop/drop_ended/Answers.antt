use Rattle.server_loop.proofs.Vocabulary.{◌≡◌, ◌∙◌, true, false, rules, sym, state_of, Loop}
use Rattle.server_loop.specs.Writing.{DropsAt}
use Rattle.server_loop.proofs.Passing.{passed}
use Rattle.server_loop.proofs.Telling.{if_false, if_true}
use Rattle.server_loop.proofs.own.Loop.drop_ended.Goals as goal

pub returns-then-not-end_windows : goal.returns-then-not-end_windows
returns-then-not-end_windows g c =
    let no : c.end_windows.result ≡ false = search rules in
    if_false _ _ _ (sym c.end_windows.ensures ∙ no) (search rules)

pub returns : goal.returns
returns g c =
    let yes : c.end_windows.result ≡ true = search rules in
    if_true _ _ _ (sym c.end_windows.ensures ∙ yes)
    (passed (λ (l : Loop g.row.S.Denot g.row.G.Denot g.row.J.Denot). state_of l) (DropsAt g.J.SessionSeat)
    _ _ _ _ _ _ c.each_awake.ensures (λ shown left key p. search rules))
