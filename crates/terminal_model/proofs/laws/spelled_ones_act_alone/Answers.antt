use Rattle.terminal_model.proofs.Spellings.{spelled-acts}
use Rattle.terminal_model.proofs.laws.spelled_ones_act_alone.Goals as goal

pub returns : goal.returns
returns c = spelled-acts
