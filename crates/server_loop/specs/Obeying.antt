-- What a message of a connection means, and what is done by it.
use Rattle.std.specs.Prelude.{◌≡◌, ◌==◌, ◌-◌, ℕ, Ok, Err, if◌then◌else◌, length}
use Rattle.session.specs.Trace.{EventValue, Output}
use Rattle.server_seat.specs.declared.seat.SeatFault.TheVariants as fault
use Rattle.server_seat.specs.declared.seat.SessionSeat.{Ghosts as Calls}
use Rattle.server_inbox.specs.Asking.{advanced, piece_of, rest_of}
use Rattle.server_inbox.specs.declared.inbox.Asked.{Asked}
use Rattle.server_loop.specs.Beginning.{Begins}
use Rattle.server_loop.specs.Handing.{Faults}
use Rattle.server_loop.specs.Leaving.{Detaches}
use Rattle.server_loop.specs.Submitting.{Answer, State, Submits}
use Rattle.server_steps.specs.declared.meaning.Meaning.{Meaning}
use Rattle.server_steps.specs.declared.meaning.Meaning.TheVariants as meaning
use Rattle.server_steps.specs.declared.progress.Progress.{Progress}
use Rattle.server_steps.specs.declared.progress.Progress.TheVariants as progress

-- what became of a window's output, of which a step was done
abbrev pub printed : Asked → Progress
printed asked = if length (rest_of asked.message asked.done) == 0 then progress.Done else progress.Part

module _ {S J : Type 0} (calls : Calls J) where
  -- if there was no memory for a step, its connection was told to go
  abbrev pub FollowsUp : ℕ → Answer → State S J → State S J → Type 0
  FollowsUp key (Err fault.NoMemory) old new = Faults calls key old new
  FollowsUp key (Err (fault.Over end)) old new = new ≡ old
  FollowsUp key (Ok answer) old new = new ≡ old

  -- one step was made with this event
  pub record SubmitsFor (event : EventValue) (key : ℕ) (old new : State S J) : Type 0 where
    pub answer : Answer
    pub mid : State S J
    pub step : Submits calls event old answer mid
    pub after : FollowsUp key answer mid new

  -- a piece of a window's output was submitted; of the output that may still be done in this turn it is taken off
  abbrev pub Prints : ℕ → Asked → ℕ → State S J → State S J → Type 0
  Prints window asked key old new = (mid : State S J)
      × SubmitsFor (Output window (piece_of asked.message asked.done)) key old mid
      × (new ≡ record mid { output_left = mid.output_left - length (piece_of asked.message asked.done) })

  -- what was done by a message, and how far it is done
  abbrev pub ObeysBy : Meaning → ℕ → Asked → Asked → State S J → Progress → State S J → Type 0
  ObeysBy meaning.First key was asked old far new = (asked ≡ was) × Begins calls was.message key old far new
  ObeysBy (meaning.Output window) key was asked old far new = (asked ≡ advanced was) × (far ≡ printed asked)
      × Prints window was key old new
  ObeysBy meaning.Leave key was asked old far new =
      (asked ≡ was) × (far ≡ progress.Done) × Detaches calls key old new
  ObeysBy meaning.Misfit key was asked old far new =
      (asked ≡ was) × (far ≡ progress.Done) × Faults calls key old new
