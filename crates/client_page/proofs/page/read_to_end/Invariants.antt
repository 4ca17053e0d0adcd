use Rattle.std.proofs.Common.{ℕ, length, ◌-◌, ◌<◌, ◌≤◌, take}
use Rattle.terminal_model.specs.Reading.{Terminal, reads}
use Rattle.emulator.specs.Standing.{StandsFor}
use Rattle.client_page.specs.Kept.{IsWhole, TakesAll}
use Rattle.client_page.proofs.page.read_to_end.Given as goal

abbrev pub invariant-bytes : goal.invariant-bytes
invariant-bytes l = record {
  taken : TakesAll l.fn.emulator (take l.read l.bytes) l.emulator;
  first : (t : Terminal) → StandsFor l.fn.emulator t → (n : ℕ) → n < l.read
      → IsWhole (reads t (take n l.bytes)).terminal → ⊥;
  few : l.read ≤ length l.bytes;
}

abbrev pub decreases-bytes : goal.decreases-bytes
decreases-bytes l = length l.bytes - l.read
