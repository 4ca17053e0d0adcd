-- What comes of a step: its answer, its notes, its deeds, and the tables after it.
use Rattle.std.specs.Prelude.{ℕ, ◌||◌, List, [], ◌∷◌, ◌++◌, Option, Some, None, Ok, Err, if◌then◌else◌}
use Rattle.acl.specs.declared.act.Act.{Act}
use Rattle.acl.specs.declared.act.Act.TheVariants as act
use Rattle.acl.specs.History.{followed_by}
use Rattle.session_model.specs.declared.refusal.Check.{Check}
use Rattle.session_model.specs.declared.event.Effect.{Effect}
use Rattle.session_model.specs.declared.refusal.Refusal.{Refusal}
use Rattle.session_model.specs.declared.refusal.Verdict.{Verdict}
use Rattle.session_model.specs.Trace.{Reply}
use Rattle.session_model.specs.Tables.{Client, Tables, focused, is_in_focus}
use Rattle.session_model.specs.Checks.{verdicts, first_fault}
use Rattle.session_model.specs.Deeds.{Deed}

-- ---- leaving

-- a user leaves a window if a focused region of one of the user's clients showed it before the
-- step, and none does after it
abbrev pub left_acts_of : Client → Option ℕ → List Client → List Client → List Act
left_acts_of c None rest after = []
left_acts_of c (Some w) rest after =
    if is_in_focus rest c.user w || is_in_focus after c.user w then [] else act.Left c.user w ∷ []

abbrev pub left_acts : List Client → List Client → List Act
left_acts [] after = []
left_acts (c ∷ before) after = left_acts_of c (focused c) before after ++ left_acts before after

-- ---- outcomes

-- what a step answers, notes and does, and the tables after it
pub record Outcome : Type 0 where
  pub reply : Reply
  pub acts : List Act
  pub verdicts : List Verdict
  pub effects : List Effect
  pub tables : Tables

abbrev pub reply_of : ℕ → ℕ → ℕ → Option (List ℕ) → Reply
reply_of taken made number lists =
    Ok (record { taken = taken; made = made; number = number; text = lists })

abbrev pub done : Reply
done = reply_of 0 0 0 None

-- the outcome of a deed: it is done, and then users leave windows
abbrev pub finished : Tables → List Verdict → Reply → Deed → Outcome
finished t vs reply d =
    let acts : List Act = d.acts ++ left_acts t.clients d.tables.clients in record {
      reply = reply;
      acts = acts;
      verdicts = vs;
      effects = d.effects;
      tables = record d.tables { acts = followed_by t.acts acts };
    }

-- the outcome of a refusal: nothing is done, but the checks that were made are noted
abbrev pub refused : Tables → List Verdict → Refusal → Outcome
refused t vs r = record { reply = Err r; acts = []; verdicts = vs; effects = []; tables = t }

-- the outcome of a deed that is done only if its checks pass
abbrev pub where_passed : Tables → List Check → Reply → Deed → Outcome
where_passed t cs reply d = elim (first_fault t cs) [
  | Some r ↦ refused t (verdicts t cs) r
  | None ↦ finished t (verdicts t cs) reply d
]
