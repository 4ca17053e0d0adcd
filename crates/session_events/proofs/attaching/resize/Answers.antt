use Rattle.session_events.proofs.NewClients.{resized_done}
use Rattle.session_events.proofs.attaching.resize.Goals as goal

pub returns-clause-answer : goal.returns-clause-answer
returns-clause-answer c = λ t m st fit at passed.
    resized_done t c.args.state.now c.args.client c.args.rows c.args.columns m c.resize.new.self
    c.args.made.now st at c.resize.ensures
