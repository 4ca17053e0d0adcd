-- A session may go to another thread, since its state may.
use denote.Builtin.{u32}
use denote.Param.Send.{IsSend, plain_send}
use denote.Param.SendFields.{declared_send}
use Rattle.std.proofs.Crossing.{Vec-send}
use Rattle.std.proofs.alloc.Global.TheSendSync as heap
use Rattle.session_state.proofs.Crossing.{state_send}
use Rattle.session_core.proofs.sharing.Sharing.TheSendSync as sharing
use Rattle.session_core.specs.contracts.session.Session as Session

pub session_send : IsSend Session.the_row
session_send =
    let serial : IsSend u32 = plain_send _ _ _ _ _ in
    declared_send Session.the_type (heap.the_send, (state_send, (Vec-send u32 serial, (sharing.the_send, tt))))
