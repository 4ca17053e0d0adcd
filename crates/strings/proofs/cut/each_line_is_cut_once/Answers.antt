use Rattle.strings.proofs.Readings.{words-cut, one_cut}
use Rattle.strings.proofs.cut.each_line_is_cut_once.Goals as goal

pub returns-clause-cut : goal.returns-clause-cut
returns-clause-cut c = words-cut

pub returns-clause-once : goal.returns-clause-once
returns-clause-once c = one_cut
