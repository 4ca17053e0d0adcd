use Rattle.trail_rights.proofs.Decided.{deciding_is_latest}
use Rattle.trail_rights.proofs.latest_decides.Goals as goal

pub returns : goal.returns
returns c = deciding_is_latest
