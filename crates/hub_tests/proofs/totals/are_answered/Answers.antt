use denote.Param.Send.{param_send, arg_send, recorded_send, struct_send, shr_send, mut_send}
use Rattle.acl.proofs.user_id.UserId.TheSendSync as user
use Rattle.hub.proofs.Crossing.{hub_sync}
use Rattle.hub.proofs.seat.Seat.TheSendSync as seat
use Rattle.hub_tests.proofs.totals.are_answered.Goals as goal

pub join-is_first-requires-send-F : goal.join-is_first-requires-send-F
join-is_first-requires-send-F g c κs within = search
    (hub_sync, seat.the_send, user.the_sync, param_send, arg_send, recorded_send, struct_send, shr_send, mut_send)
    depth 60
