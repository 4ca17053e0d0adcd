use Rattle.std.specs.Prelude.{true}
use Rattle.server_trail.specs.Runs.{HasRun}
use Rattle.server_trail.proofs.recorder.Recorder.write_all.Given as goal

abbrev pub invariant-writes : goal.invariant-writes
invariant-writes g l = ∥ HasRun 0 l.sent (g.F.Write.contents l.fn.file) (g.F.Write.contents l.file) true ∥₁
