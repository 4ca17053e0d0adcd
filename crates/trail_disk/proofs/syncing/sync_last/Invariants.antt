use Rattle.std.specs.Io.KnownBytes.{Keeps}
use Rattle.trail_disk.proofs.syncing.sync_last.Given as goal

abbrev pub invariant-tries : goal.invariant-tries
invariant-tries g l = Keeps (g.F.Write.contents l.fn.file) (g.F.Write.contents l.file)
