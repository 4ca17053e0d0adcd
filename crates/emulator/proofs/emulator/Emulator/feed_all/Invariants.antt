use Rattle.emulator.proofs.Vocabulary.{◌+◌, ◌-◌, ◌*◌, ◌≤◌, length, take, vec_len, vec_capacity, Terminal, StandsFor}
use Rattle.emulator.proofs.Vocabulary.{HasRead}
use Rattle.emulator.proofs.emulator.Emulator.feed_all.Given as goal

abbrev pub invariant-bytes : goal.invariant-bytes
invariant-bytes l = record {
  read : (t : Terminal) → StandsFor l.fn.self t → HasRead t (take l.read l.bytes) l.fn.out.items l.self l.out.items;
  inside : l.read ≤ length l.bytes;
  few : vec_len l.out ≤ vec_len l.fn.out + 24 * l.read;
  capacity : vec_capacity l.fn.out ≤ vec_capacity l.out;
}

abbrev pub decreases-bytes : goal.decreases-bytes
decreases-bytes l = length l.bytes - l.read
