use Rattle.control_parser.proofs.Vocabulary.{◌≡◌, ◌+◌, ◌-◌, ◌≤◌, length, drop, prefix_len, is_plain}
use Rattle.control_parser.proofs.parser.plain_run.Given as goal

abbrev pub invariant-loop-run : goal.invariant-loop-run
invariant-loop-run l = record {
  plain : prefix_len is_plain l.bytes ≡ l.run + prefix_len is_plain (drop l.run l.bytes);
  inside : l.run ≤ length l.bytes;
}

abbrev pub decreases-loop-run : goal.decreases-loop-run
decreases-loop-run l = length l.bytes - l.run
