use Rattle.trail_confined.proofs.Vocabulary.{take_more, window_text}
use Rattle.trail_confined.proofs.Texts.{all_told, one_more}
use Rattle.trail_confined.proofs.who.push_windows.Goals as goal

pub loop-window-preserved : goal.loop-window-preserved
loop-window-preserved c = λ edition owner h stands.
    one_more (window_text edition owner h c.args.users.now) c.args.windows.now c.loop-window.window-index _ _ _ _
    (take_more c.args.windows.now c.loop-window.window-index _ c.loop-window-test.true)
    (c.loop-window.invariant edition owner h stands) (c.in_ok-push_window.ensures edition owner h stands)

pub returns : goal.returns
returns c = λ edition owner h stands.
    all_told (window_text edition owner h c.args.users.now) c.args.windows.now c.loop-window.window-index _ _
    c.loop-window-test.false (c.loop-window.invariant edition owner h stands)
