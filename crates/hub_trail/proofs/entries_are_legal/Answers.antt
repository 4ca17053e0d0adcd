use Rattle.hub_trail.specs.Filing.{kept_of}
use Rattle.hub_trail.proofs.Entries.{legal_step}
use Rattle.hub_trail.proofs.Runs.{legal_entries, acts_filed}
use Rattle.hub_trail.proofs.entries_are_legal.Goals as goal

pub returns : goal.returns
returns c = λ t step fit is.
    (legal_entries t step fit is, acts_filed t step (kept_of step.event) is (legal_step t step.event fit.agree))
