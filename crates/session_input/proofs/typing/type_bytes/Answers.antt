use Rattle.session_input.proofs.Vocabulary.{◌≡◌, ◌++◌, subst, ap, sym, ◌∙◌, ◌⊎◌, StatusMessage, NoMemory, typing_checks}
use Rattle.session_input.proofs.Vocabulary.{Caller, Step, caller_in, Passed, Failed, Typed, input_to}
use Rattle.session_input.proofs.Inputs.{typed_through, typed_refused_or}
use Rattle.session_input.proofs.typing.type_bytes.Goals as goal

pub returns-in_ok-put_typed-in-Ok-clause-ok : goal.returns-in_ok-put_typed-in-Ok-clause-ok
returns-in_ok-put_typed-in-Ok-clause-ok c = λ t row st fit at same.
    typed_through t row c.args.typed c.args.step.now _ (sym c.is_empty.ensures ∙ c.if-is_empty.false)
    (subst (λ (k : Caller). Passed t (typing_checks k.user (caller_in t k).window)
    c.args.step.now.verdicts.items c.check_typing.new.verdicts.items) same (c.in-Ok.ensures t st fit))
    (c.in_ok-put_typed-in-Ok.ensures.ok
    ∙ ap (λ (k : Caller). c.args.step.now.made.effects.items ++ input_to k.window c.args.typed) same)

pub returns-in_ok-deny-in-Err-clause-ok : goal.returns-in_ok-deny-in-Err-clause-ok
returns-in_ok-deny-in-Err-clause-ok c = λ t row st fit at same.
    let r = c.in-Err.refusal in
    let past = c.args.step.now.verdicts.items in
    let noted = c.check_typing.new.verdicts.items in
    let after : Step = record {
      made = record c.args.step.now.made { effects = c.deny.new.effects };
      verdicts = c.check_typing.new.verdicts;
    } in
    subst (λ (m : StatusMessage). Typed t row c.args.typed m c.args.step.now after)
    (sym c.in_ok-deny-in-Err.ensures.ok.0)
    (typed_refused_or t row c.args.by.client c.args.typed r c.args.step.now after
    (sym c.is_empty.ensures ∙ c.if-is_empty.false) at
    (sym c.wants_memory.ensures ∙ c.if-wants_memory.false)
    (subst (λ (k : Caller). (r ≡ NoMemory) ⊎ Failed t (typing_checks k.user (caller_in t k).window)
    r past noted) same (c.in-Err.ensures t st fit))
    c.in_ok-deny-in-Err.ensures.ok.1)
