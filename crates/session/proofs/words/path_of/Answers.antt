use Rattle.session.proofs.Vocabulary.{ap, ◌∙◌, found_of, first_of, first_value-rows}
use Rattle.session.proofs.words.path_of.Goals as goal

pub returns-in-Ok : goal.returns-in-Ok
returns-in-Ok c = λ takes.
    c.get_str.ensures
    ∙
    (first_value-rows (found_of c.in-Ok.matches) c.args.name.now
    ∙ ap (λ r. first_of c.args.name.now r) c.in-Ok.ensures.ok)
