use Rattle.terminal_model.proofs.Frames.{rendered-in-turn, rendered-one, mode-set, keypad-set, mode-quiet, keypad-quiet}
use Rattle.terminal_model.proofs.Renditions.{rendition-is, values-quiet}
use Rattle.terminal_model.proofs.laws.renditions_and_modes_change_alone.Goals as goal

pub returns : goal.returns
returns c = record {
  turn = rendered-in-turn;
  rendition = rendered-one;
  mode = mode-set;
  keypad = keypad-set;
  whole_rendition = rendition-is;
  rendition_quiet = values-quiet;
  mode_quiet = mode-quiet;
  keypad_quiet = keypad-quiet;
}
