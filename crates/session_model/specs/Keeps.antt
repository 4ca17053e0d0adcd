-- The promise of a session.
use Rattle.std.specs.Prelude.{List, [], ◌∷◌}
use Rattle.session_model.specs.Trace.{Entry, Trace}
use Rattle.session_model.specs.Tables.{Tables, fresh}
use Rattle.session_model.specs.Run.{IsStep, after, tables_from}
use Rattle.session_model.specs.Promises.{TypedBytesReach, DenialIsTold, CommandsAct, ChangesNothing}
use Rattle.session_model.specs.Promises.{DrawShows, DeliversFrames, NoOtherEffect}
use Rattle.session_model.specs.Denying.{DenialsName}

-- A step is one of the session's. A typed byte reaches a window exactly if its user or one of the
-- user's leaders has w there and no other user holds the window's lock; otherwise the user is told
-- why. A command acts exactly if x is granted. After each draw, the client's VT220, whatever its
-- state was, shows exactly the client's granted view. Every denial names its entry or its lock.
pub record KeepsPromise (t : Tables) (e : Entry) : Type 0 where
  pub step : IsStep t e
  pub typed_bytes : TypedBytesReach t e
  pub told : DenialIsTold t e
  pub commands : CommandsAct t e (after t e)
  pub refusals : ChangesNothing t e (after t e)
  pub draws : DrawShows t e
  pub frames : DeliversFrames t e
  pub denials : DenialsName t e
  pub no_other_effect : NoOtherEffect t e

-- each step of a run that begins with these tables keeps the promise
abbrev pub KeepsPromisesFrom : Tables → List Entry → Type 0
KeepsPromisesFrom start [] = Unit {0}
KeepsPromisesFrom start (e ∷ past) =
    KeepsPromisesFrom start past × KeepsPromise (tables_from start past) e

abbrev pub KeepsPromises : Trace → Type 0
KeepsPromises h = KeepsPromisesFrom (fresh h.edition h.owner) h.entries
