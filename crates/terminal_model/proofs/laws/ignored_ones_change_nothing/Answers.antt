use Rattle.terminal_model.proofs.Ignored.{effect-none, report-none, margins-none}
use Rattle.terminal_model.proofs.laws.ignored_ones_change_nothing.Goals as goal

pub returns : goal.returns
returns c = record { effect = effect-none; report = report-none; margins = margins-none }
