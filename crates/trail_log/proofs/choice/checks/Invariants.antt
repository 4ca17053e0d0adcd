use Rattle.std.proofs.Common.{◌≡◌, drop}
use Rattle.trail_log.specs.Choosing.{checks}
use Rattle.trail_log.proofs.choice.checks.Given as goal

abbrev pub invariant-loop-verdict : goal.invariant-loop-verdict
invariant-loop-verdict l =
    checks l.titles l.asked (drop l.verdict-index l.verdicts) ≡ checks l.titles l.asked l.verdicts
