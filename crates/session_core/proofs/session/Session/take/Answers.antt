use Rattle.session_core.proofs.Vocabulary.{[], sym, ◌∙◌, happening}
use Rattle.session_core.proofs.Runs.{one_step, whole_but_keys}
use Rattle.session_core.proofs.session.Session.take.Goals as goal

pub returns : goal.returns
returns c = record {
  steps = one_step _ _ (happening c.args.event) [] c.step-reply.new.notes _ _ c.step-reply.result
      (λ t is. whole_but_keys c.args.event c.step-reply.result c.in_default.not-Keys)
      (c.step-reply.ensures.step (sym c.wants_memory.ensures ∙ c.if-wants_memory.false));
  part = tt;
}
