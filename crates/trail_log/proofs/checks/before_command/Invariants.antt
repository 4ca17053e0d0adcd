use Rattle.std.proofs.Common.{◌≡◌, ◌++◌, drop, take}
use Rattle.trail_log.specs.Checks.{before_command}
use Rattle.trail_log.proofs.checks.before_command.Given as goal

abbrev pub invariant-loop-i : goal.invariant-loop-i
invariant-loop-i l =
    before_command l.verdicts ≡ take l.i l.verdicts ++ before_command (drop l.i l.verdicts)
