-- The causes that peers are told when the server ends, or an event has no answer, and the words for guests.
use Rattle.std.specs.Prelude.{ℕ, List, codes}
use Rattle.attach_proto.specs.declared.why.Why.{Why}
use Rattle.attach_proto.specs.declared.why.Why.TheVariants as why
use Rattle.server_seat.specs.declared.seat.GuestKind.{GuestKind}
use Rattle.server_seat.specs.declared.seat.GuestKind.TheVariants as kind
use Rattle.server_seat.specs.declared.seat.ServerEnd.{ServerEnd}
use Rattle.server_seat.specs.declared.seat.ServerEnd.TheVariants as end
use Rattle.server_seat.specs.declared.seat.SeatFault.{SeatFault}
use Rattle.server_seat.specs.declared.seat.SeatFault.TheVariants as fault

abbrev pub why_of_end : ServerEnd → Why
why_of_end end.Quit = why.Quit
why_of_end end.TrailFull = why.TrailFull
why_of_end end.Fault = why.Fault

abbrev pub why_of_fault : SeatFault → Why
why_of_fault fault.NoMemory = why.Fault
why_of_fault (fault.Over end) = why_of_end end

abbrev pub word_of : GuestKind → List ℕ
word_of kind.Client = codes "client"
word_of kind.Window = codes "window"
