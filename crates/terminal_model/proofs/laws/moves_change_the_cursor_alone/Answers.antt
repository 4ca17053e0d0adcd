use Rattle.terminal_model.proofs.Frames.{cursor-moved, moved-quiet}
use Rattle.terminal_model.proofs.laws.moves_change_the_cursor_alone.Goals as goal

pub returns : goal.returns
returns c = record { cursor = cursor-moved; quiet = moved-quiet }
