-- The attached clients may go to another thread, since their regions may.
use denote.Builtin.{u32}
use denote.Param.Send.{IsSend, plain_send, view_send}
use denote.Param.SendFields.{declared_send}
use Rattle.std.proofs.option.Option.TheSendSync as option
use Rattle.session_model.proofs.event.StatusMessage.TheSendSync as message
use Rattle.acl.proofs.user_id.UserId.TheSendSync as user
use Rattle.keys.proofs.reader.KeyReader.TheSendSync as reader
use Rattle.redraw.proofs.shadow.Shadow.TheSendSync as shadow
use Rattle.regions.proofs.Crossing.{layout_send}
use Rattle.view.proofs.view.View.TheSendSync as view
use Rattle.view.specs.contracts.view.View as View
use Rattle.windows_model.proofs.rows.Rows.TheSendSync as rows
use Rattle.session_state.specs.contracts.client.Client as Client
use Rattle.session_state.specs.contracts.clients.Clients as Clients
use Rattle.session_state.specs.contracts.clients.Clients.TheInside as inside

client_send : IsSend Client.the_row
client_send =
    let serial : IsSend u32 = plain_send _ _ _ _ _ in let other = option.the_send u32 serial in
    declared_send Client.the_type (
      serial,
      (user.the_send, (reader.the_send, (layout_send, (other, (other, (message.the_send, (shadow.the_send, tt))))))),
    )

pub clients_send : IsSend Clients.the_row
clients_send = view_send inside.the_row _ _ _ _
    (declared_send inside.the_type
    (rows.the_send Client.the_row client_send, (option.the_send View.the_row view.the_send, tt)))
