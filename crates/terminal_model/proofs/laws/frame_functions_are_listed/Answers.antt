use Rattle.terminal_model.proofs.Further.{cursor-listed, cells-listed, line-listed, rendered-listed, mode-listed}
use Rattle.terminal_model.proofs.Further.{keypad-listed}
use Rattle.terminal_model.proofs.Renditions.{values-listed}
use Rattle.terminal_model.proofs.laws.frame_functions_are_listed.Goals as goal

pub returns : goal.returns
returns c = record {
  cursor = cursor-listed;
  cells = cells-listed;
  line = line-listed;
  rendition = rendered-listed;
  whole_rendition =
      values-listed;
  mode = mode-listed;
  keypad = keypad-listed;
}
