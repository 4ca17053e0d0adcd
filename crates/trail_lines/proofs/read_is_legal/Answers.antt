use Rattle.std.proofs.Common.{[]}
use Rattle.hub.specs.Filing.{entries_of}
use Rattle.hub.proofs.Runs.{legal_run}
use Rattle.hub.proofs.Steps.{judged_run}
use Rattle.hub.proofs.Judged.{good_legal, good_not_bad, legal_good}
use Rattle.trail_lines.proofs.read_is_legal.Goals as goal

pub returns-clause-legal : goal.returns-clause-legal
returns-clause-legal c = λ a edition owner entries read. good_legal edition owner [] entries read.judged.good

pub returns-clause-runs : goal.returns-clause-runs
returns-clause-runs c = λ h place run bad.
    good_not_bad h.edition h.owner [] (entries_of h.entries) place
    (legal_good h.edition h.owner [] (entries_of h.entries) (judged_run h run) (legal_run h run)) bad
