use Rattle.session_input.proofs.Vocabulary.{◌+◌, ◌≤◌, Ok, Err, ap, refl, sym, subst, ◌∙◌, is_some, StatusMessage}
use Rattle.session_input.proofs.Vocabulary.{ruling, on_ok, Caller, State, Stands, caller_in, Ruled, Says}
use Rattle.std.specs.Prelude.{vec_len, vec_capacity}
use Rattle.windows_model.proofs.Serials.{on_error}
use Rattle.session_input.proofs.Ordered.{obeyed_listing, obeyed_refused_or, kept_on, on_always}
use Rattle.session_input.proofs.obeying.obey_command.Goals as goal

pub returns-in_ok-message-in-Ok-Some-clause-ok : goal.returns-in_ok-message-in-Ok-Some-clause-ok
returns-in_ok-message-in-Ok-Some-clause-ok c =
    let order = c.args.command.now in
    let text = c.in-Ok-Some.text in
    let s = c.order.new.state in
    on_ok c.say.result (λ says. λ t row d st fit at serial same.
    let told = subst (λ (k : Caller). Ruled t (ruling t (caller_in t k) order)
    (Ok c.in-Ok-Some.field-0) s c.args.step.now c.order.new.step) same (c.in-Ok-Some.ensures.ruled t st fit) in
    let kept = c.in-Ok-Some.ensures.lists (ap is_some c.in-Ok-Some.field-0-is) in
    obeyed_listing t row d c.args.by.client order told.0.0 text s c.say.new.state c.args.step.now
    c.order.new.step c.say.new.made serial
    (subst (λ (x : State). Stands t x) (sym kept.state) st) at told.0.1
    (sym c.in-Ok-Some.field-0-is ∙ told.0.2) told.0.3 told.1
    (subst (λ (m : StatusMessage). Says c.args.by.client m text s c.say.new.state c.order.new.step.made
    c.say.new.made) c.in_ok-message-in-Ok-Some.ensures says))
    c.say.ensures.ok

pub returns-in_ok-reserve-in-Err : goal.returns-in_ok-reserve-in-Err
returns-in_ok-reserve-in-Err c =
    let order = c.args.command.now in
    let r = c.in-Err.refusal in
    let s = c.order.new.state in
    let kept = c.in-Err.ensures.whole.0 in
    record {
      ok = on_ok c.say_why.result (λ says. λ t row d st fit at serial same.
          obeyed_refused_or t row c.args.by.client order r s c.say_why.new.state c.args.step.now
          c.order.new.step c.say_why.new.made serial (sym c.wants_memory.ensures ∙ c.if-wants_memory.false)
          (subst (λ (k : Caller). Ruled t (ruling t (caller_in t k) order) (Err r)
          s c.args.step.now c.order.new.step) same (c.in-Err.ensures.ruled t st fit))
          kept.acts kept.effects
          (kept_on t _ c.say_why.new.state _ c.order.new.step.made c.say_why.new.made
          (says t d (subst (λ (x : State). Stands t x) (sym kept.state) st) at)
          c.in_ok-reserve-in-Err.ensures.items refl))
          c.say_why.ensures.ok;
      whole = (
        on_error c.say_why.result (λ same. record {
          state = same.state ∙ kept.state;
          acts = same.acts ∙ c.in_ok-reserve-in-Err.ensures.items ∙ kept.acts;
          effects = same.effects ∙ kept.effects;
        }) c.say_why.ensures.err,
        on_always c.say_why.result
            (subst (λ acts. vec_len acts + 64 ≤ vec_capacity acts)
            (sym c.say_why.ensures.acts) c.in_ok-reserve-in-Err.ensures.ok),
      );
      memory = c.say_why.ensures.memory;
    }
