use Rattle.acl.proofs.AsideLemmas.{open-all_same, count-all_same}
use Rattle.acl.proofs.windows_stay.Goals as goal

pub returns : goal.returns
returns c = record { windows = open-all_same; count = count-all_same }
