-- A loop with what it has around it.
use Rattle.std.specs.Prelude.{ℕ, Bool, Option}
use Rattle.std.specs.declared.time.Duration.{Duration}
use Rattle.server_loop.specs.Submitting.{State, state_of}
use Rattle.server_pace.specs.declared.pace.Pace.{Pace}
use Rattle.server_turns.specs.declared.turner.Turner.{Turner}

pub record Course (S J A : Type 0) : Type 0 where
  pub own : State S J
  pub around : A
  -- how many loops there are
  pub loops : ℕ
  -- the count of the users that the loop has
  pub count : ℕ
  pub pace : Pace
  -- connections may wait to be handed out, as the listener said
  pub is_asked : Bool
  -- when the server began to end
  pub ended : Option Duration

abbrev pub course_of : {S G J A : Type 0} → Turner S G J A → Course S J A
course_of turner = record {
  own = state_of turner.own;
  around = turner.around;
  loops = turner.loops;
  count = turner.count;
  pace = turner.pace;
  is_asked = turner.is_asked;
  ended = turner.ended;
}
