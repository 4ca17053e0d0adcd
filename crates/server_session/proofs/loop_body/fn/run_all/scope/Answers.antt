use denote.Param.Send.{sendable}
use Rattle.std.proofs.Crossing.{crosses}
use Rattle.hub.proofs.seat.Seat.TheSendSync as seat
use Rattle.server_session.proofs.Crossing.{running_sync}
use Rattle.server_session.proofs.loop_body.fn.run_all.scope.Goals as goal

pub spawn-started-requires-send-F : goal.spawn-started-requires-send-F
spawn-started-requires-send-F g c κs within = search (running_sync, seat.the_send, sendable, crosses) depth 60
