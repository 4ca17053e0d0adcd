-- Loops in several threads may share a session, and hand back its seats.
use denote.RattleType.{RattleType}
use denote.Param.Send.{IsSync, sendable}
use denote.Param.SendFields.{declared_sync}
use Rattle.std.specs.declared.sync.ledger.Ledger.{Ghosts}
use Rattle.hub.specs.Begun.{Ghosts as Beginnings}
use Rattle.hub.proofs.Crossing.{hub_sync, seats_sync}
use Rattle.std.proofs.Crossing.{crosses}
use Rattle.server_users.proofs.users.Users.TheSendSync as users
use Rattle.server_trail.proofs.recorder.Recorder.TheSendSync as recorder
use Rattle.server_trail.specs.contracts.recorder.Recorder as Recorder
use Rattle.server_session.specs.contracts.shared_session.SharedSession as SharedSession
use Rattle.server_session.specs.contracts.loop_body.RunningSession as RunningSession

pub session_sync : (L : RattleType) (b : Beginnings L.Denot) (g : Ghosts L.Denot)
    → IsSync (SharedSession.the_row L Recorder.the_row b g)
session_sync L b g =
    declared_sync (SharedSession.the_type L Recorder.the_row b g)
    (hub_sync L b g, (users.the_sync, (search (recorder.the_sync, sendable, crosses) depth 60, tt)))

pub running_sync : (L : RattleType) (b : Beginnings L.Denot) (g : Ghosts L.Denot)
    → IsSync (RunningSession.the_row L b g)
running_sync L b g = declared_sync (RunningSession.the_type L b g) (session_sync L b g, (seats_sync L g, tt))
