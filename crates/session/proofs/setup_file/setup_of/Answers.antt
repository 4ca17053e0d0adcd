use Rattle.std.proofs.Common.{◌∙◌}
use Rattle.session.proofs.setup_file.setup_of.Goals as goal

pub returns-in-Ok : goal.returns-in-Ok
returns-in-Ok g c = λ takes none. c.read_of.ensures (c.in-Ok.ensures takes ∙ none)
