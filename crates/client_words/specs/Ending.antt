-- How `mux` ends.
use Rattle.std.specs.Prelude.{ℕ, Bool, true, false, Result, Ok, Err}
use Rattle.attach_proto.specs.declared.fault.WriteFault.{WriteFault}
use Rattle.attach_proto.specs.declared.fault.WriteFault.TheVariants as write
use Rattle.attach_proto.specs.declared.why.Why.{Why}
use Rattle.client_words.specs.declared.fault.PeerFault.{PeerFault}
use Rattle.client_words.specs.declared.fault.PeerFault.TheVariants.{NoMemory, TooLong}

-- why a peer fails whose message has no frame
abbrev pub fault_of : WriteFault → PeerFault
fault_of write.Unspellable = TooLong
fault_of write.NoMemory = NoMemory

-- the exit status of a fault: 2 if the arguments are at fault
abbrev pub status_of : PeerFault → ℕ
status_of TooLong = 2
status_of fault = 1

-- the exit status of a peer: 0 if its user left, or after a good end
abbrev pub status_after : Bool → Result Why PeerFault → ℕ
status_after true end = 0
status_after false (Ok why) = 0
status_after false (Err fault) = status_of fault
