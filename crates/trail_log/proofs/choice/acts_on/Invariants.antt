use Rattle.std.proofs.Common.{◌≡◌, drop}
use Rattle.trail_log.specs.Choosing.{acts_on}
use Rattle.trail_log.proofs.choice.acts_on.Given as goal

abbrev pub invariant-loop-act : goal.invariant-loop-act
invariant-loop-act l =
    acts_on l.titles l.asked (drop l.act-index l.acts) ≡ acts_on l.titles l.asked l.acts
