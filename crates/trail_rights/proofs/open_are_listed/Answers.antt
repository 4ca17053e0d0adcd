use Rattle.trail_rights.proofs.Opened.{open_listed}
use Rattle.trail_rights.proofs.open_are_listed.Goals as goal

pub returns : goal.returns
returns c = open_listed
