use Rattle.server_loop.proofs.Vocabulary.{subst, Connections, TellsLeaving, state_of}
use Rattle.server_loop.proofs.own.Loop.expel.Goals as goal

pub returns : goal.returns
returns g c = (
  c.tell_leaving.result,
  subst (λ (s : Connections g.row.S.Denot). TellsLeaving g.J.SessionSeat c.args.key
      (record (state_of c.args.self.now) { connections = s }) c.tell_leaving.result
      (state_of c.tell_leaving.new.self)) c.expel.ensures c.tell_leaving.ensures,
)
