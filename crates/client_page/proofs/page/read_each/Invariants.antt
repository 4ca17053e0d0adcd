use Rattle.std.proofs.Common.{length, ◌-◌, ◌≤◌, take}
use Rattle.client_page.specs.Kept.{TakesAll}
use Rattle.client_page.proofs.page.read_each.Given as goal

abbrev pub invariant-bytes : goal.invariant-bytes
invariant-bytes l = record {
  read : TakesAll l.fn.emulator (take l.read l.bytes) l.emulator;
  few : l.read ≤ length l.bytes;
}

abbrev pub decreases-bytes : goal.decreases-bytes
decreases-bytes l = length l.bytes - l.read
