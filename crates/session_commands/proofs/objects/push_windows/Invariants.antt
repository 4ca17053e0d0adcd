use Rattle.session_commands.proofs.Vocabulary.{◌≡◌, ◌++◌, map, take, window_object}
use Rattle.session_commands.proofs.objects.push_windows.Given as goal

abbrev pub invariant-loop-window : goal.invariant-loop-window
invariant-loop-window l =
    l.objects.items
    ≡ l.fn.objects.items ++ map window_object (take l.window-index l.window-items)
