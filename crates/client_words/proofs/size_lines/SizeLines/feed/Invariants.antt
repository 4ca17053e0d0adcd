use Rattle.std.proofs.Common.{◌≡◌, ◌≤◌, ◌++◌, ℕ, List, take, vec_capacity}
use Rattle.client_words.specs.Lines.{ended, unended, last_size}
use Rattle.client_words.specs.Stands.{StandsFor}
use Rattle.client_words.proofs.size_lines.SizeLines.feed.Given as goal

abbrev pub invariant-loop-byte : goal.invariant-loop-byte
invariant-loop-byte l = record {
  size : (before : List ℕ) → StandsFor l.fn.self before
      → l.last ≡ last_size (ended (unended before ++ take l.byte-index l.bytes));
  stands : (before : List ℕ) → StandsFor l.fn.self before → StandsFor l.self (before ++ take l.byte-index l.bytes);
  room : 64 ≤ vec_capacity l.self.line;
}
