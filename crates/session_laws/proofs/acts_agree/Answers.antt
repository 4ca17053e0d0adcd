use Rattle.session_laws.proofs.Vocabulary.{ap, sym, ◌∙◌, followed_by, fresh}
use Rattle.session_laws.proofs.acts_agree.Goals as goal
use Rattle.session_laws.proofs.Sounding.{fresh_sound}
use Rattle.session_laws.proofs.ActsOfRuns.{after_acts, acts_agree, fresh_agrees, run_agrees}

pub returns-clause-noted : goal.returns-clause-noted
returns-clause-noted c = λ t e step. after_acts t e.event e.effects ∙ ap (followed_by t.acts) (sym step.acts)

pub returns-clause-step : goal.returns-clause-step
returns-clause-step c = acts_agree

pub returns-clause-run : goal.returns-clause-run
returns-clause-run c = λ h. run_agrees (fresh h.edition h.owner) h.entries (fresh_sound h.edition h.owner)
    (fresh_agrees h.edition h.owner)
