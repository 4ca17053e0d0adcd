use Rattle.std.proofs.Common.{ap, ◌∙◌, List}
use Rattle.keys.specs.Grammar.{Item, Rest}
use Rattle.client_typing.specs.Fitting.{awaits_key}
use Rattle.client_typing.proofs.typing.Typing.follow.Goals as goal

pub invariant_of-self : goal.invariant_of-self
invariant_of-self c = record {
  begun = c.begins-begins.ensures ∙ ap (λ (s : List Item × Rest). awaits_key s.1) c.push.ensures.next;
}
