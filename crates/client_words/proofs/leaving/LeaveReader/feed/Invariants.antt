use Rattle.std.proofs.Common.{◌≡◌, ◌≤◌, ◌+◌, ◌++◌, ℕ, List, length, take, vec_capacity}
use Rattle.client_words.specs.Leaving.{sent}
use Rattle.client_words.specs.Stands.{HasRead}
use Rattle.client_words.proofs.leaving.LeaveReader.feed.Given as goal

abbrev pub invariant-loop-byte : goal.invariant-loop-byte
invariant-loop-byte l = record {
  all_sent : (before gone : List ℕ) → HasRead l.fn.self before → gone ++ l.fn.out.items ≡ sent l.fn.self.byte before
      → gone ++ l.out.items ≡ sent l.fn.self.byte (before ++ take l.byte-index l.bytes);
  stands : (before : List ℕ) → HasRead l.fn.self before → HasRead l.self (before ++ take l.byte-index l.bytes);
  byte : l.self.byte ≡ l.fn.self.byte;
  room : length l.out.items + length l.bytes ≤ vec_capacity l.out + l.byte-index;
}
