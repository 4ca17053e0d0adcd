use Rattle.session.proofs.Vocabulary.{ap, ◌∙◌, codes, option_and_then, named_by, found_of, first_value-rows}
use Rattle.session.proofs.words.owner_of.Goals as goal

pub returns-in-Some : goal.returns-in-Some
returns-in-Some c = c.of.ensures.named ∙ (ap (λ word. named_by word) c.as_bytes.ensures.value
    ∙ ap (λ o. option_and_then named_by o)
    (c.in-Some.ensures ∙ first_value-rows (found_of c.args.matches.now) (codes "owner")))

pub returns-in-None : goal.returns-in-None
returns-in-None c = ap (λ o. option_and_then named_by o)
    (c.in-None.ensures ∙ first_value-rows (found_of c.args.matches.now) (codes "owner"))
