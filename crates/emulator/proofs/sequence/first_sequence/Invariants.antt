use Rattle.emulator.proofs.Vocabulary.{◌≡◌, ◌-◌, ◌<◌, ◌≤◌, ◌++◌, ◌∷◌, [], length, take, no_text}
use Rattle.control_parser.proofs.Sequences.{IsNumerals}
use Rattle.emulator.proofs.sequence.first_sequence.Given as goal

abbrev pub invariant-loop-at : goal.invariant-loop-at
invariant-loop-at l = record {
  inside : l.at ≤ length l.bytes;
  few : l.count < 16;
  room : length l.params ≡ 16;
  read : IsNumerals l.bytes l.at (record no_text { mark = l.mark; params = take l.count l.params ++ 0 ∷ [] }) 0;
}

abbrev pub decreases-loop-at : goal.decreases-loop-at
decreases-loop-at l = length l.bytes - l.at
