-- Threads may share a hub, and hand back its seats.
use denote.RattleType.{RattleType}
use denote.Param.Send.{IsSync}
use denote.Param.SendFields.{declared_sync}
use Rattle.std.specs.declared.sync.ledger.Ledger.{Ghosts}
use Rattle.hub_ledger.specs.declared.Begun.{Ghosts as Beginnings}
use Rattle.std.specs.contracts.sync.Mutex as Mutex
use Rattle.std.proofs.sync.Mutex.TheSendSync as mutex
use Rattle.std.proofs.Crossing.{Vec-send}
use Rattle.std.specs.contracts.alloc.Global as Global
use Rattle.std.specs.contracts.vec.Vec as Vec
use Rattle.std.specs.contracts.impls.GlobalAllocator.TheImpl as heap
use Rattle.hub_ledger.proofs.Crossing.{ledger_send}
use Rattle.hub_ledger.proofs.seat.Seat.TheSendSync as seat
use Rattle.hub_ledger.specs.contracts.ledger.Ledger as Ledger
use Rattle.hub_ledger.specs.contracts.seat.Seat as Seat
use Rattle.hub.specs.contracts.Hub as Hub

pub hub_sync : (L : RattleType) (b : Beginnings L.Denot) (g : Ghosts L.Denot) → IsSync (Hub.the_row L b g)
hub_sync L b g = declared_sync (Hub.the_type L b g) (mutex.the_sync (Ledger.the_row L b g) (ledger_send L b g), tt)

pub seats_sync : (L : RattleType) (g : Ghosts L.Denot)
    → IsSync (Mutex.the_row (Vec.the_row (Seat.the_row L g) Global.the_row heap.ghosts))
seats_sync L g = mutex.the_sync (Vec.the_row (Seat.the_row L g) Global.the_row heap.ghosts)
    (Vec-send (Seat.the_row L g) (seat.the_send L g))
