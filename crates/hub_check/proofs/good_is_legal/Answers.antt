use Rattle.hub_check.proofs.Judged.{good_legal, good_not_bad}
use Rattle.hub_check.proofs.good_is_legal.Goals as goal

pub returns : goal.returns
returns c = record { legal = good_legal; not_bad = good_not_bad }
