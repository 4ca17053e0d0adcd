use Rattle.server_loop.proofs.Vocabulary.{refl, ap, Connections, state_of}
use Rattle.server_loop.proofs.own.Loop.obey_next.Goals as goal

pub returns-in_default : goal.returns-in_default
returns-in_default g c = (c.in_default.ensures, refl)

pub returns : goal.returns
returns g c = record {
  asked = c.in-Some.asked;
  taken = c.next_asked.new.connections;
  next = c.in-Some.ensures;
  left = c.obey-progress.new.asked;
  mid = state_of c.obey-progress.new.self;
  obeys = c.obey-progress.ensures;
  back = ap (λ (s : Connections g.row.S.Denot). record (state_of c.obey-progress.new.self) { connections = s }) c.put_back.ensures;
}
