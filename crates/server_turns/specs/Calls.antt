-- What a loop calls around it, with what was given and what was answered.
use Rattle.std.specs.Prelude.{ℕ, Bool, List, Option, Result, ⊤}
use Rattle.std.specs.declared.io.Error.{Error}
use Rattle.std.specs.declared.time.Duration.{Duration}
use Rattle.server_seat.specs.declared.news.News.{News}
use Rattle.server_seat.specs.declared.seat.ServerEnd.{ServerEnd}
use Rattle.server_turns.specs.declared.around.Backlog.{Backlog}
use Rattle.server_turns.specs.declared.around.Came.{Came}
use Rattle.server_turns.specs.declared.around.Learned.{Learned}

pub data Call : Type 0 where
  Arrive : Bool → Call
  Now : Option Duration → Call
  Queue : Backlog → Call
  Wait : Option Duration → Result ⊤ Error → Call
  Event : Option Came → Call
  Flooded : Bool → Call
  Flood : Bool → Call
  Accept : Result ⊤ Error → Call
  Take : Call
  Hand : Option Bool → Call
  Note : ℕ → Call
  Await : Call
  Ask : ℕ → Call
  Know : ℕ → Option Learned → ℕ → Call
  Wake : Result ⊤ Error → Call
  Tell : List News → Call
  End : ServerEnd → Result ⊤ Error → Call
  Over : Option ServerEnd → Call
  Close : Call
  Pause : Result ⊤ Error → Call
