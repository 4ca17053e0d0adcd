use Rattle.std.proofs.Common.{◌≡◌, drop}
use Rattle.server_session.specs.Seating.{AreClosed, after_closings}
use Rattle.server_session.proofs.seated.Seated.close_all.Given as goal

-- if those that are left are closed, all are; and these have their calls
abbrev pub invariant-effects : goal.invariant-effects
invariant-effects g l = (AreClosed g.B.Counting.closes (drop l.sent-index l.effects)
    → AreClosed g.B.Counting.closes l.effects)
    × (after_closings (drop l.sent-index l.effects) l.self.calls ≡ after_closings l.effects l.fn.self.calls)
    × (l.self ≡ record l.fn.self { calls = l.self.calls })
