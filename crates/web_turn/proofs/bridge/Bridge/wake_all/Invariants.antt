use Rattle.std.proofs.Common.{◌≡◌}
use Rattle.std.specs.Slice.Iter.{iter_rest}
use Rattle.mio.specs.Events.{items}
use Rattle.web_turn.specs.Waking.{wakes_all}
use Rattle.web_turn.proofs.bridge.Bridge.wake_all.Given as goal

-- what is still to come of the events
abbrev pub invariant-loop-event : goal.invariant-loop-event
invariant-loop-event g l = wakes_all (iter_rest l.event-iterator) l.self ≡ wakes_all (items l.events) l.fn.self
