-- What is kept under the lock says that the trail is legal, and has the acts of the tables.
use Rattle.hub_ledger.proofs.Vocabulary.{◌≡◌, ap, ◌∙◌, subst, sym, [], Trace, tables_of, AreJudgeable, IsLegal, State}
use Rattle.hub_ledger.proofs.Vocabulary.{Stood, IsKept}
use Rattle.hub_trail.specs.Trails as trails
use Rattle.hub_trail.specs.Legal.{acts_of}
use Rattle.hub_trail.proofs.Runs.{acts_run, legal_run}
use Rattle.hub_trail.proofs.Steps.{judged_run}

pub kept_legal : (s : State) → IsKept s → IsLegal s.trail
kept_legal s kept = subst IsLegal kept.past.1.trail (legal_run kept.past.0 kept.past.1.stands.run)

pub kept_acts : (s : State) (h : Trace) → Stood h s → acts_of s.trail ≡ (tables_of h).acts
kept_acts s h stood = ap acts_of (sym stood.trail) ∙ acts_run h stood.stands.run

pub kept_judgeable : (s : State) → IsKept s → AreJudgeable s.trail.edition s.trail.owner [] s.trail.entries
kept_judgeable s kept = subst (λ (t : trails.Trail). AreJudgeable t.edition t.owner [] t.entries) kept.past.1.trail
    (judged_run kept.past.0 kept.past.1.stands.run)
