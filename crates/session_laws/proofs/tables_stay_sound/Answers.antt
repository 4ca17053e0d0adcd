use Rattle.session_laws.proofs.Vocabulary.{fresh}
use Rattle.session_laws.proofs.tables_stay_sound.Goals as goal
use Rattle.session_laws.proofs.Sounding.{lasting, fresh_sound, run_sound}

pub returns-clause-step : goal.returns-clause-step
returns-clause-step c = λ t e s. lasting t e.event e.effects s

pub returns-clause-run : goal.returns-clause-run
returns-clause-run c = λ h. run_sound (fresh h.edition h.owner) h.entries (fresh_sound h.edition h.owner)
