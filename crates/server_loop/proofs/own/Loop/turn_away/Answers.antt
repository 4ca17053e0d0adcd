use Rattle.server_loop.proofs.Vocabulary.{Fault, state_of}
use Rattle.server_loop.proofs.Begun.{dismissed}
use Rattle.server_loop.proofs.own.Loop.turn_away.Goals as goal

pub returns : goal.returns
returns g c = (
  state_of c.send.new.self,
  c.send.ensures,
  dismissed Fault c.args.key c.send.new.self c.dismiss.new.self c.dismiss.ensures,
)
