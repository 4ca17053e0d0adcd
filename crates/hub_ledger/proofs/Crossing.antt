-- What lies under the hub's lock may be sent to another thread. This is proved type by type: the
-- search for the whole at once ends at a limit.
use denote.RattleType.{RattleType}
use denote.Param.Send.{IsSend, view_send}
use denote.Param.SendFields.{declared_send}
use Rattle.std.specs.declared.sync.ledger.Ledger.{Ghosts}
use Rattle.hub_ledger.specs.declared.Begun.{Ghosts as Beginnings}
use Rattle.std.proofs.sync.ledger.Book.TheSendSync as book
use Rattle.std.proofs.alloc.Global.TheSendSync as global
use Rattle.session.proofs.Crossing.{session_send}
use Rattle.hub_peers.proofs.Peers.TheSendSync as peers
use Rattle.hub_ledger.proofs.waiting.SeatEffects.TheSendSync as waiting
use Rattle.hub_record.proofs.growing_trail.GrowingTrail.TheSendSync as entries
use Rattle.hub_ledger.specs.contracts.filed_session.FiledSession as FiledSession
use Rattle.hub_ledger.specs.contracts.ledger.Ledger as Ledger
use Rattle.hub_ledger.specs.contracts.ledger.Ledger.TheInside as inside

pub desk_send : IsSend FiledSession.the_row
desk_send = declared_send FiledSession.the_type
    (global.the_send, (session_send, (entries.the_send, (peers.the_send, (waiting.the_send, tt)))))

pub ledger_send : (L : RattleType) (b : Beginnings L.Denot) (g : Ghosts L.Denot) → IsSend (Ledger.the_row L b g)
ledger_send L b g = view_send (inside.the_row L b g) _ _ _ _
    (declared_send (inside.the_type L b g) (desk_send, (book.the_send L g, tt)))
