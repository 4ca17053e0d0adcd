use Rattle.trail_confined.proofs.Vocabulary.{◌≡◌, drop, any_gives}
use Rattle.trail_confined.proofs.failing.any_gives.Given as goal

abbrev pub invariant-loop-user : goal.invariant-loop-user
invariant-loop-user l =
    any_gives l.deciders l.command (drop l.user-index l.users) ≡ any_gives l.deciders l.command l.users
