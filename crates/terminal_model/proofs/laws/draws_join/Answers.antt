use Rattle.terminal_model.proofs.Further.{draws-append, spelled-append, spelled-one}
use Rattle.terminal_model.proofs.laws.draws_join.Goals as goal

pub returns : goal.returns
returns c = record { spelled = spelled-append; one = spelled-one; draws = draws-append }
