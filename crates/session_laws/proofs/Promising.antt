-- Every step of every run keeps the promise.
use Rattle.session_laws.proofs.Vocabulary.{List, [], ◌∷◌, Entry, Trace, Tables, fresh, IsStep, IsRun, IsRunFrom}
use Rattle.session_laws.proofs.Vocabulary.{tables_from, KeepsPromise, KeepsPromises, KeepsPromisesFrom}
use Rattle.session_laws.proofs.Reaching.{reach}
use Rattle.session_laws.proofs.DenialsTold.{told}
use Rattle.session_laws.proofs.Granting.{commands}
use Rattle.session_laws.proofs.Refusing.{refusals, draws}
use Rattle.session_laws.proofs.EffectsCaused.{denials, frames, no_other}

pub step_keeps : (t : Tables) (e : Entry) → IsStep t e → KeepsPromise t e
step_keeps t e step = record {
  step = step;
  typed_bytes = reach t e.event e.effects step.effects;
  told = told t e.reply e.acts e.verdicts e.effects e.event step;
  commands = commands t e.event e.reply e.acts e.verdicts e.effects step;
  refusals = refusals t e step;
  draws = draws t e step;
  frames = frames t e step;
  denials = denials t e step;
  no_other_effect = no_other t e step;
}

from_start : (start : Tables) (entries : List Entry) → IsRunFrom start entries → KeepsPromisesFrom start entries
from_start start [] run = tt
from_start start (e ∷ past) run = (from_start start past run.0, step_keeps (tables_from start past) e run.1)

pub run_keeps : (h : Trace) → IsRun h → KeepsPromises h
run_keeps h run = from_start (fresh h.edition h.owner) h.entries run
