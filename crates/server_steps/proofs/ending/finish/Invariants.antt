use Rattle.std.proofs.Common.{◌-◌}
use Rattle.server_steps.specs.Ending.{EachKey, FinishesAt}
use Rattle.server_steps.proofs.ending.finish.Given as goal

-- whatever the rest of the keys makes of it, all of them do
abbrev pub invariant-keys : goal.invariant-keys
invariant-keys g l = (new : _)
    → EachKey (FinishesAt g.S.PeerStream l.fn.why) (l.key-end - l.key) l.key l.connections new
    → EachKey (FinishesAt g.S.PeerStream l.fn.why) l.key-end 0 l.fn.connections new
