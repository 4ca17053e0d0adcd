use Rattle.draw_check.proofs.Joining.{one_draws, draws_append}
use Rattle.draw_check.proofs.draws_join.Goals as goal

pub returns-clause-joined : goal.returns-clause-joined
returns-clause-joined c = draws_append

pub returns-clause-one : goal.returns-clause-one
returns-clause-one c = one_draws
