use Rattle.hub_check.proofs.Judged.{legal_good, bad_illegal}
use Rattle.hub_check.proofs.judged_is_legal.Goals as goal

pub returns : goal.returns
returns c = record { good = legal_good; bad = bad_illegal }
