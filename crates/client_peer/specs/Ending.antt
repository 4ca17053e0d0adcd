-- How a peer ends.
use Rattle.std.specs.Prelude.{Bool, true, false, Result, Ok, Err, Option, Some, None, ◌≡◌, ◌&&◌, ◌||◌, [], is_some}
use Rattle.std.specs.Prelude.{if◌then◌else◌}
use Rattle.std.specs.Option.{option_or}
use Rattle.attach_proto.specs.declared.why.Why.{Why}
use Rattle.attach_proto.specs.declared.why.Why.TheVariants.{Detached, Quit, Killed}
use Rattle.client_words.specs.declared.arguments.Subcommand.{Subcommand}
use Rattle.client_words.specs.declared.arguments.Subcommand.TheVariants.{Window}
use Rattle.client_words.specs.declared.fault.PeerFault.{PeerFault}
use Rattle.client_words.specs.declared.fault.PeerFault.TheVariants.{Ended, Gone}
use Rattle.client_peer.specs.declared.peer.Peer.{Peer}

abbrev pub is_window : Subcommand → Bool
is_window Window = true
is_window other = false

-- how a peer ends that the server lets go: a window's end is a good one even if the window was killed
abbrev pub end_for : Subcommand → Why → Result Why PeerFault
end_for subcommand Detached = Ok Detached
end_for subcommand Quit = Ok Quit
end_for Window Killed = Ok Killed
end_for subcommand why = Err (Gone why)

-- At the end of its input a peer doesn't come back any more. One whose server is lost ends.
abbrev pub without_input : Peer → Option PeerFault → Peer → Peer
without_input old fault new = record old {
  frames = new.frames;
  fault = option_or fault old.fault;
  is_final = old.is_final || is_some old.loss;
  times = record old.times { again = 0 };
}

-- A peer whose output can't be written ends for good, and unless it has ended before, by that fault. A window that has
-- ended may have a program that reads no more: that is no fault.
pub record EndsOutput (old : Peer) (f : PeerFault) (new : Peer) : Type 0 where
  pub none : new.bytes.items ≡ []
  pub end : new.end ≡ option_or old.end (Some (Err f))
  pub fault : new.fault ≡ (if is_some old.end && is_window old.subcommand then old.fault else Some f)
  pub rest : new ≡ record old {
    bytes = new.bytes;
    is_writing = false;
    is_final = true;
    fault = new.fault;
    end = new.end;
  }

-- how the peer ended: a fault of its input or output replaces a good end
abbrev pub ending_of : Option (Result Why PeerFault) → Option PeerFault → Result Why PeerFault
ending_of (Some (Ok why)) (Some fault) = Err fault
ending_of (Some end) fault = end
ending_of None fault = Err Ended
