use Rattle.terminal_model.specs.Reading.{ready}
use Rattle.terminal_model.proofs.Terminals.{IsTerminal-ready}
use Rattle.terminal_model.proofs.WholeReading.{whole, whole_piece, begins_anew}
use Rattle.terminal_model.proofs.laws.reading_is_of_the_whole.Goals as goal

pub returns : goal.returns
returns c = record {
  one_coding = whole;
  fresh = λ x bytes h k. (whole (ready x) bytes (IsTerminal-ready x h) k).functions_are;
  up_to_a_change = λ t bytes b h k. (whole_piece t bytes b h k).0;
  unended_at_a_change = λ t bytes b h k. (whole_piece t bytes b h k).1;
  anew_behind_a_change = begins_anew;
}
