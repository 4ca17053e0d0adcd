-- What holds of each step on tables that are fit.
use Rattle.session.specs.Sound.{AreFit}
use Rattle.session.specs.Tables.{Tables}
use Rattle.session.specs.Trace as trace
use Rattle.session.specs.Run.{IsStep}
use Rattle.hub_trail.specs.Filing.{filed}
use Rattle.hub_trail.specs.Judging.{AreJudgeable}

-- tables of rights and locks can judge what a step files
abbrev pub EntriesAreJudgeable : Type 0
EntriesAreJudgeable =
    (t : Tables) (step : trace.Entry) → AreFit t → IsStep t step
    → AreJudgeable t.edition t.owner t.acts (filed step)
