-- A session's state may go to another thread, since each of its parts may.
use denote.Param.Send.{IsSend, plain_send}
use denote.Param.SendFields.{declared_send}
use Rattle.std.proofs.alloc.Global.TheSendSync as heap
use Rattle.acl.proofs.acl.Acl.TheSendSync as acl
use Rattle.writelock.proofs.locks.Locks.TheSendSync as locks
use Rattle.windows.proofs.windows.Windows.TheSendSync as windows
use Rattle.session_state.proofs.ClientsCrossing.{clients_send}
use Rattle.session_state.specs.contracts.state.State as State

pub state_send : IsSend State.the_row
state_send = declared_send State.the_type (
  heap.the_send,
  (
    acl.the_send,
    (
      locks.the_send,
      (
        plain_send _ _ _ _ _,
        (windows.the_send, (clients_send, (plain_send _ _ _ _ _, (plain_send _ _ _ _ _, tt)))),
      ),
    ),
  ),
)
