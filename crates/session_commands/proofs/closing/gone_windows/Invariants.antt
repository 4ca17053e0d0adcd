use Rattle.session_commands.proofs.Vocabulary.{◌≡◌, map, take, gone_row}
use Rattle.session_commands.proofs.closing.gone_windows.Given as goal

abbrev pub invariant-loop-window : goal.invariant-loop-window
invariant-loop-window l = l.gone.items ≡ map (gone_row l.why) (take l.window-index l.windows)
