use Rattle.session_input.specs.Reads.{keys_deed}
use Rattle.session_input.proofs.KeyStepping.{keys_ended}
use Rattle.session_input.proofs.key_step.give_order.Goals as goal

pub returns-clause-ok : goal.returns-clause-ok
returns-clause-ok c = λ t row keys st fit at same read.
    let given = c.in_ok-give.ensures.ok t row keys st fit at same read in
    keys_ended t row keys c.give.new.state c.leave.new.state c.args.step.now c.give.new.step c.leave.new.made given
    (c.leave.ensures t (keys_deed t row keys) (c.of-focuses.ensures t st fit.sound)
    given.done.stands)
