use Rattle.session_commands.proofs.Vocabulary.{inr, caller_in}
use Rattle.session_commands.proofs.Grouping.{lists, leaders_listed, leaders_refused}
use Rattle.session_commands.proofs.access.aclgrp_of.Goals as goal

pub returns-in_ok-leaders_text-in-Ok : goal.returns-in_ok-leaders_text-in-Ok
returns-in_ok-leaders_text-in-Ok c = λ made t st fit passed.
    let known = c.in-Ok.ensures t st in
    lists t c.args.state.now made _ _ c.in_ok-leaders_text-in-Ok.field-0 st
    (leaders_listed t (caller_in t c.args.caller) c.args.name.now c.in-Ok.user known.0 known.1)
    (c.in_ok-leaders_text-in-Ok.ensures t st)

pub returns-in-Err : goal.returns-in-Err
returns-in-Err c = λ made t st fit passed.
    inr
    (leaders_refused t (caller_in t c.args.caller) c.args.name.now c.in-Err.fault
    (c.in-Err.ensures t st))
