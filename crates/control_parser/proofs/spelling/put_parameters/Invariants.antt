use Rattle.control_parser.proofs.Vocabulary.{◌≡◌, ◌≤◌, ◌+◌, ◌*◌, ◌∷◌, ◌++◌, take, length, flat_map, parameter}
use Rattle.control_parser.proofs.spelling.put_parameters.Given as goal

abbrev pub invariant-loop-n : goal.invariant-loop-n
invariant-loop-n l = record {
  numbers : l.room ≡ l.initial.room ++ flat_map (λ m. 0x3B ∷ parameter m) (take l.n-index l.others);
  short : length l.room ≤ length l.initial.room + 5 * l.n-index;
}
