use Rattle.std.proofs.Common.{refl}
use Rattle.session_input.proofs.Telling.{said_done}
use Rattle.session_input.proofs.saying.say.Goals as goal

pub returns-clause-ok : goal.returns-clause-ok
returns-clause-ok c = λ t row st at.
    said_done t c.args.state.now c.args.client c.args.message c.args.text row c.hear.new.self
    c.args.made.now _ at c.hear.ensures st c.in_ok-push.ensures.items refl
