use Rattle.emulator.proofs.Vocabulary.{◌≡◌, [], ◌++◌, length, take, reverse, ap, ◌∙◌, sym, Page, Screen, starting}
use Rattle.emulator.proofs.Vocabulary.{Terminal, ready, writes_all, IsSound-starting, IsTerminal-ready}
use Rattle.terminal_model.specs.Scrollback.{all_left}
use Rattle.terminal_model.proofs.Leaving.{writing_keeps, writing_keep, take_none}
use Rattle.emulator.proofs.moved_page_shows_the_last_lines.Goals as goal

pub returns : goal.returns
returns c e rows columns keep offset ws size are stands =
    let x : Screen = starting rows columns keep in
    let t : Terminal = ready x in
    let fresh = IsTerminal-ready x (IsSound-starting rows columns keep size) in
    let y : Screen = (writes_all t ws).terminal.screen in
    let kept : y.kept ≡ take keep (reverse (all_left [] t ws))
    = writing_keeps t ws [] are fresh (sym (take_none keep))
    ∙ ap (λ n. take n (reverse (all_left [] t ws))) (writing_keep t ws are fresh) in
    let kept' : e.screen.kept ≡ take keep (reverse (all_left [] t ws)) = ap (λ (z : Screen). z.kept) stands.screen
    ∙ kept in
    ap (λ (l : Page). take (length e.screen.page) (reverse (take offset l) ++ e.screen.page)) kept'
