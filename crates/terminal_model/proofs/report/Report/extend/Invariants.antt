use Rattle.std.proofs.Common.{◌≡◌, ◌+◌, ◌++◌, length, take}
use Rattle.terminal_model.proofs.report.Report.extend.Given as goal

abbrev pub invariant-loop-byte : goal.invariant-loop-byte
invariant-loop-byte l = record {
  so_far : l.self ≡ l.fn.self ++ take l.byte-index l.bytes;
  counted : length l.self ≡ length l.fn.self +
      l.byte-index;
}
