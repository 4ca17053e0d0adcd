use Rattle.std.proofs.Common.{◌≡◌, drop}
use Rattle.trail_log.specs.Naming.{title_in}
use Rattle.trail_log.proofs.titles.title_in.Given as goal

abbrev pub invariant-loop-titled : goal.invariant-loop-titled
invariant-loop-titled l = title_in (drop l.titled-index l.titles) l.window ≡ title_in l.titles l.window
