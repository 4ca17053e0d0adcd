-- Laws of the trails of runs, and of legal trails.
use Rattle.std.specs.Prelude.{◌≡◌, ◌↔◌, List, [], ◌++◌}
use Rattle.acl.specs.declared.leaders.Edition.{Edition}
use Rattle.acl.specs.declared.user_id.UserId.{UserId}
use Rattle.acl.specs.History.{History, followed_by}
use Rattle.session.specs.refusal.Verdict.{Verdict}
use Rattle.session.specs.refusal.Verdict.TheVariants.{Right as right, Lock as lock}
use Rattle.session.specs.Sound.{AreFit}
use Rattle.session.specs.Tables.{Tables}
use Rattle.session.specs.Trace.{Trace}
use Rattle.session.specs.Trace as trace
use Rattle.session.specs.Run.{IsStep, IsRun, tables_of}
use Rattle.hub_trail.specs.Trails.{Entry}
use Rattle.hub_trail.specs.Legal.{IsTrue, AreLegal, IsLegal, acts_after, acts_of}
use Rattle.hub_trail.specs.Filing.{filed, entries_of, trail_of}
use Rattle.hub_trail.specs.Judging.{AreJudgeable}

-- what a step files is legal after the acts of its tables, and has all acts of the step
abbrev pub EntriesAreLegal : Type 0
EntriesAreLegal =
    (t : Tables) (step : trace.Entry) → AreFit t → IsStep t step
    → AreLegal t.edition t.owner t.acts (filed step)
    × (acts_after t.acts (filed step) ≡ followed_by t.acts step.acts)

-- the trail of every run is legal
abbrev pub TrailsAreLegal : Type 0
TrailsAreLegal = (h : Trace) → IsRun h → IsLegal (trail_of h)

-- the acts of the trail of every run are those of the session's tables
abbrev pub TrailsHaveTheActs : Type 0
TrailsHaveTheActs = (h : Trace) → IsRun h → acts_of (trail_of h) ≡ (tables_of h).acts

-- tables of rights and locks can judge each entry of the trail of a run
abbrev pub TrailsAreJudgeable : Type 0
TrailsAreJudgeable =
    (h : Trace) → IsRun h → AreJudgeable h.edition h.owner [] (entries_of h.entries)

-- ---- legal trails

-- both verdicts are answers to the same question
abbrev pub AskTheSame : Verdict → Verdict → Type 0
AskTheSame (right u b o answer) (right v c p other) = (u ≡ v) × (b ≡ c) × (o ≡ p)
AskTheSame (lock u w held) (lock v x other) = (u ≡ v) × (w ≡ x)
AskTheSame v w = ⊥

-- the question decides a legal verdict: no other answer in its place is legal
abbrev pub VerdictsAreDecided : Type 0
VerdictsAreDecided =
    (edition : Edition) (owner : UserId) (h : History) (v w : Verdict) → AskTheSame v w
    → IsTrue edition owner h v → IsTrue edition owner h w → v ≡ w

-- entries in two parts are legal exactly if the first part is legal, and the second is legal after
-- the acts of the first
abbrev pub LegalInParts : Type 0
LegalInParts =
    (edition : Edition) (owner : UserId) (h : History) (before behind : List Entry)
    → AreLegal edition owner h (before ++ behind)
    ↔ (AreLegal edition owner h before
    × AreLegal edition owner (acts_after h before) behind)
