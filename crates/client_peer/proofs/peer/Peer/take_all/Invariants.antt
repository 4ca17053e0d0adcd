use Rattle.std.proofs.Common.{◌≡◌, ◌++◌}
use Rattle.std.specs.Vec.Iter.{into_iter_items}
use Rattle.client_peer.specs.Hearing.{HearsAll}
use Rattle.client_peer.specs.Meeting.{StaysClosed}
use Rattle.client_peer.specs.Showing.{PassesOn}
use Rattle.client_peer.proofs.peer.Peer.take_all.Given as goal

abbrev pub invariant-loop-message : goal.invariant-loop-message
invariant-loop-message l = record {
  can : (goal.iterator-loop-message).can_next l.message-iterator;
  finite : (goal.iterator-loop-message).is_finite l.message-iterator;
  whole : l.fn.messages.items ≡ l.yielded ++ into_iter_items l.message-iterator;
  passes : PassesOn l.fn.self l.self;
  closed : StaysClosed l.fn.self l.self;
  hears : HearsAll l.fn.self l.yielded l.self;
}
