use Rattle.std.proofs.Common.{◌≡◌, drop}
use Rattle.hub_trail.specs.Legal.{from_command}
use Rattle.hub_trail.proofs.says.from_command.Given as goal

abbrev pub invariant-loop-i : goal.invariant-loop-i
invariant-loop-i l = from_command l.verdicts ≡ from_command (drop l.i l.verdicts)
