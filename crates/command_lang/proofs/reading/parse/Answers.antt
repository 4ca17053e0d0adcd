use Rattle.command_lang.proofs.Vocabulary.{◌≡◌, ◌⊎◌, inl, inr, IfErr-weaker, no_memory, NoneBefore}
use Rattle.command_lang.proofs.Places.{least_place}
use Rattle.command_lang.proofs.reading.parse.Goals as goal

pub returns-clause-least : goal.returns-clause-least
returns-clause-least c =
    IfErr-weaker c.command_in.result _ _
    (λ f h. elim h as (λ _. (f ≡ no_memory) ⊎ NoneBefore c.args.line.now f)
    [ inl m ↦ inl m | inr r ↦ inr (least_place c.args.line.now f r) ])
    c.command_in.ensures.err
