use Rattle.std.proofs.Common.{◌∙◌, ◌∷◌, ◌++◌, [], ap, refl}
use Rattle.std.specs.Prelude.{option_to_list}
use Rattle.server_inbox.proofs.Asking.{popped}
use Rattle.server_inbox.proofs.inbox.Inbox.next.Goals as goal

pub returns-clause-next : goal.returns-clause-next
returns-clause-next c = λ none. (
  refl,
  λ taken stream h. record {
    lies = c.refill.ensures.lies (taken ++ c.in-Some-pop.message ∷ []) stream
        (popped c.args.self.now.messages.items c.pop.new.self.items c.in-Some-pop.message _ _ _ taken stream h.lies
        (c.pop.ensures.items ∙ ap (λ o. c.pop.new.self.items ++ option_to_list o) c.in-Some-pop.is));
    through = c.refill.ensures.through;
  },
)
