use Rattle.std.proofs.Common.{◌≡◌, drop}
use Rattle.trail_log.specs.Checks.{window_in}
use Rattle.trail_log.proofs.checks.window_in.Given as goal

abbrev pub invariant-loop-verdict : goal.invariant-loop-verdict
invariant-loop-verdict l = window_in (drop l.verdict-index l.verdicts) ≡ window_in l.verdicts
