use Rattle.std.proofs.Common.{ap}
use Rattle.session_input.proofs.Putting.{stands_read}
use Rattle.session_input.proofs.KeyStepping.{keys_typed}
use Rattle.session_input.proofs.key_step.give_typed.Goals as goal

pub returns-clause-ok : goal.returns-clause-ok
returns-clause-ok c = λ t row keys st fit at same read.
    let message = c.in_ok-message.message in
    keys_typed t c.args.by.client row keys c.args.typed c.args.reader.now message _
    c.args.step.now c.type_bytes.new.step at read (c.in_ok-message.ensures.ok t row st fit at same)
    (ap (λ acts. acts.items) c.in_ok-message.ensures.acts)
    (stands_read t c.args.state.now c.args.by.client row keys c.args.reader.now c.exchange.new.keys
    message c.exchange.new.message c.exchange.new.self at read.reads c.exchange.ensures.row st)
