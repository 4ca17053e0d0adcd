use Rattle.std.proofs.Common.{◌≤◌, length, take}
use Rattle.std.specs.Io.KnownBytes.{Appends}
use Rattle.server_trail.proofs.writing.write_bytes.Given as goal

abbrev pub invariant-writes : goal.invariant-writes
invariant-writes g l = record {
  within : l.sent ≤ length l.bytes;
  front : Appends (g.F.Write.contents l.fn.file) (g.F.Write.contents l.file)
      (take l.sent l.bytes);
}
