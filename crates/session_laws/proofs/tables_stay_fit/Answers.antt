use Rattle.session_laws.proofs.Vocabulary.{fresh}
use Rattle.session_laws.proofs.tables_stay_fit.Goals as goal
use Rattle.session_laws.proofs.Staying.{fresh_fit, fit_after, run_fit}

pub returns-clause-fresh : goal.returns-clause-fresh
returns-clause-fresh c = fresh_fit

pub returns-clause-step : goal.returns-clause-step
returns-clause-step c = fit_after

pub returns-clause-run : goal.returns-clause-run
returns-clause-run c = λ h. run_fit (fresh h.edition h.owner) h.entries (fresh_fit h.edition h.owner)
