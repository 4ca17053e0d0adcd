use Rattle.session_input.proofs.Vocabulary.{ℕ, Some, Result, refl, sym, subst, append-nil, OnOk, Command, ParseFault}
use Rattle.session_input.proofs.Vocabulary.{Text, Refusal, Line, says, text_of, on_ok, HasDone}
use Rattle.session_input.specs.Obeying.{Obeys}
use Rattle.session_input.proofs.Ordered.{kept_on}
use Rattle.session_input.proofs.obeying.obey.Goals as goal

pub returns-in-Ok-clause-ok : goal.returns-in-Ok-clause-ok
returns-in-Ok-clause-ok c =
    subst (λ (o : Result Command ParseFault). OnOk c.obey_command.result
    (Obeys c.args.by.caller c.args.by.client (Some o) c.args.state.now c.obey_command.new.state
    c.args.step.now c.obey_command.new.step)) (sym c.in-Ok.is) c.obey_command.ensures.ok

pub returns-in_ok-reserve-in-Err-clause-ok : goal.returns-in_ok-reserve-in-Err-clause-ok
returns-in_ok-reserve-in-Err-clause-ok c =
    let r : Refusal = Line c.in-Err.fault in
    subst (λ (o : Result Command ParseFault). OnOk c.say_why.result
    (Obeys c.args.by.caller c.args.by.client (Some o) c.args.state.now c.say_why.new.state
    c.args.step.now (record c.args.step.now { made = c.say_why.new.made })))
    (sym c.in-Err.is)
    (on_ok c.say_why.result (λ told. λ t row d st fit at serial same. record {
      done = subst (λ (n : ℕ). HasDone t (says t n (Text (text_of r)) (text_of r))
          c.say_why.new.state c.args.step.now.made c.say_why.new.made) (sym serial)
          (kept_on t _ c.say_why.new.state _ c.args.step.now.made c.say_why.new.made
          (told t d st at) c.in_ok-reserve-in-Err.ensures.items refl);
      verdicts = sym (append-nil c.args.step.now.verdicts.items);
    }) c.say_why.ensures.ok)
