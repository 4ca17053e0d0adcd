use Rattle.std.proofs.Common.{refl}
use Rattle.terminal_model.specs.Functions.{plain_sequence}
use Rattle.vt_screen.proofs.scrolls_turn_places.Goals as goal

pub returns : goal.returns
unfolding plain_sequence
returns c = record {
  line_feed = λ x places. refl;
  index = λ x places. refl;
  next_line = λ x places. refl;
  reverse_index = λ x places. refl;
  insert_lines = λ x params places. refl;
  delete_lines = λ x params places. refl;
}
