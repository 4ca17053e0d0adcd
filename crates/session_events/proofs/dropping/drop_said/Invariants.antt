use Rattle.std.proofs.Common.{◌≤◌}
use Rattle.session_events.proofs.Parts.{DropsSoFar}
use Rattle.session_events.proofs.dropping.drop_said.Given as goal

abbrev pub invariant-loop-turn : goal.invariant-loop-turn
invariant-loop-turn l =
    record {
      within : l.place ≤ l.turn;
      sofar : DropsSoFar l.from l.to l.fn.effects.items l.effects.items l.turn l.place;
    }
