-- A loop from its first turn to its last one.
use Rattle.std.specs.Prelude.{◌≡◌, ℕ, Bool, Option, Some, None, Result, Ok, Err, ⊤}
use Rattle.std.specs.declared.io.Error.{Error}
use Rattle.std.specs.declared.time.Duration.{Duration}
use Rattle.server_connections.specs.declared.peer_stream.PeerStream.{Ghosts as Streams}
use Rattle.server_seat.specs.declared.seat.ServerEnd.{ServerEnd}
use Rattle.server_seat.specs.declared.seat.SessionSeat.{Ghosts as Calls}
use Rattle.server_loop.specs.Leaving.{IfBool}
use Rattle.server_turns.specs.Beginning.{Begins}
use Rattle.server_turns.specs.Calls.{Call, Arrive, Over}
use Rattle.server_turns.specs.Course.{Course}
use Rattle.server_turns.specs.Steps.{Many}
use Rattle.server_turns.specs.Turns.{Turns, WindsUp}

module _ {S J A : Type 0} (calls : Calls J) (streams : Streams S) (does : A → Call → A → Type 0)
    (wires : A → ℕ → Option S → A → Type 0) where
  -- the system refused something at a turn's begin, or in it
  abbrev pub FailsFrom : Result (Option Duration) Error → Course S J A → Error → Course S J A → Type 0
  FailsFrom (Ok now) mid error new = Turns calls streams does now mid (Err error) new
  FailsFrom (Err why) mid error new = (why ≡ error) × (new ≡ mid)

  -- a turn began and was had; then the server goes on, or ends
  abbrev pub GoesRound : Course S J A → Result (Option ServerEnd) Error → Course S J A → Type 0
  GoesRound old (Ok over) new = (now : Option Duration) × (mid : Course S J A)
      × Begins calls streams does wires old (Ok now) mid × Turns calls streams does now mid (Ok tt) new
      × does new.around (Over over) new.around
  GoesRound old (Err error) new = (begun : Result (Option Duration) Error) × (mid : Course S J A)
      × Begins calls streams does wires old begun mid × FailsFrom begun mid error new

  -- after the last round the loop wound up, if the server ends
  abbrev pub EndsAfter : Result (Option ServerEnd) Error → Course S J A → Result ⊤ Error → Course S J A → Type 0
  EndsAfter (Ok None) old result new = ⊥
  EndsAfter (Ok (Some end)) old result new = WindsUp calls streams does end old result new
  EndsAfter (Err error) old result new = (result ≡ Err error) × (new ≡ old)

  -- rounds, up to one by which the server ends or the system refused something
  pub record TakesTurns (old : Course S J A) (result : Result ⊤ Error) (new : Course S J A) : Type 0 where
    pub count : ℕ
    pub mid : Course S J A
    pub rounds : Many (λ count was now. GoesRound was (Ok None) now) count old mid
    pub last : Result (Option ServerEnd) Error
    pub left : Course S J A
    pub round : GoesRound mid last left
    pub ends : EndsAfter last left result new

  -- a loop that was ready had its turns if the server serves; it knows the users that the server began with
  abbrev pub Serves : Course S J A → Result ⊤ Error → Course S J A → Type 0
  Serves old result new = (serves : Bool) × (mid : A) × does old.around (Arrive serves) mid × IfBool serves
      (TakesTurns (record old { around = mid; own = record old.own { looked = Some 0 } }) result new)
      ((result ≡ Ok tt) × (new ≡ record old { around = mid; own = record old.own { looked = Some 0 } }))
