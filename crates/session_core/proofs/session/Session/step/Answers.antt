use Rattle.session_core.proofs.Vocabulary.{◌≡◌, [], true, ap, sym, subst, ◌∙◌, ◌++◌, append-nil, Effect, EventValue}
use Rattle.session_core.proofs.Vocabulary.{happening, tables_of, State, Step, draws_one_of, TakenAs, StayShared}
use Rattle.session_core.proofs.Vocabulary.{Session}
use Rattle.std.proofs.Common.{Vec, Global}
use Rattle.session_core.proofs.Fitting.{run_is_fit}
use Rattle.session_core.proofs.Runs.{step_taken, draw_taken}
use Rattle.session_core.proofs.session.Session.step.Goals as goal

pub returns-then-draws_one_of-clause-step : goal.returns-then-draws_one_of-clause-step
returns-then-draws_one_of-clause-step c = λ taken h st.
    let one : draws_one_of c.args.self.now.drawn.items (happening c.args.event) ≡ true =
    ap (λ ns. draws_one_of ns (happening c.args.event)) (sym c.deref.ensures.value) ∙ sym c.draws_one_of.ensures
    ∙ c.if-draws_one_of.true in (
      [],
      sym (append-nil c.args.effects.now.items),
      draw_taken h c.args.self.now (happening c.args.event) _ _ one (sym c.made_so.ensures) c.new.ensures st,
    )

pub returns-clause-step : goal.returns-clause-step
returns-clause-step c = λ taken h st.
    let old : Session = c.args.self.now in
    let event : EventValue = happening c.args.event in
    let new : Session = record {
      alloc = old.alloc;
      state = c.note_step.new.state;
      drawn = c.note_drawn.new.clients;
      sharing =
          c.note_step.new.sharing;
    } in
    let before : Step = record {
      made = record { acts = c.new-2.result; effects = c.replace.result };
      verdicts = c.new-verdicts.result;
    } in
    let step = subst
    (λ (s : State). TakenAs event c.take-reply.result (tables_of h)
    (StayShared event old.sharing c.take-reply.new.sharing) s before c.take-reply.new.step)
    (sym c.note_step.ensures.state)
    (c.take-reply.ensures.step (tables_of h) st.stands (run_is_fit h) st.shared taken) in
    let made = step_taken h old new c.take-reply.new.sharing event c.take-reply.result c.of.result before
    c.take-reply.new.step c.of.ensures c.new-2.ensures.items c.new-verdicts.ensures.items st c.note_drawn.ensures
    c.note_step.ensures.left step in
    (made.0, made.1 ∙ ap (λ (v : Vec Effect Global). v.items ++ made.0) c.replace.ensures.value, made.2)
