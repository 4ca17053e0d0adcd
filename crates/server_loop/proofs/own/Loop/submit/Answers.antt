use Rattle.server_loop.proofs.Vocabulary.{happening, state_of}
use Rattle.server_loop.proofs.Counting.{submitted}
use Rattle.server_loop.proofs.own.Loop.submit.Goals as goal

pub returns : goal.returns
returns g c = submitted g.J.SessionSeat (happening c.args.event) (state_of c.args.self.now)
    (state_of c.note_step.new.self) c.submit-answer.result c.submit-answer.new.self c.submit-answer.ensures.step
    c.note_step.ensures
