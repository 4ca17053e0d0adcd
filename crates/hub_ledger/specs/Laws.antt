-- What is kept under the lock says that the trail is legal, and has the acts of the tables.
use Rattle.std.specs.Prelude.{◌≡◌}
use Rattle.session.specs.Trace.{Trace}
use Rattle.session.specs.Run.{tables_of}
use Rattle.hub_trail.specs.Legal.{IsLegal, acts_of}
use Rattle.hub_ledger.specs.States.{State, Stood, IsKept}

-- the trail is legal
abbrev pub KeptTrailsAreLegal : Type 0
KeptTrailsAreLegal = (s : State) → IsKept s → IsLegal s.trail

-- the acts of the trail are those of the session's tables
abbrev pub KeptTrailsHaveTheActs : Type 0
KeptTrailsHaveTheActs =
    (s : State) (h : Trace) → Stood h s → acts_of s.trail ≡ (tables_of h).acts
