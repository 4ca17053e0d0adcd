-- Which message tells how a peer ended.
use Rattle.std.specs.Prelude.{Bool, true, false, Result, Ok, Err}
use Rattle.attach_proto.specs.declared.why.Why.{Why}
use Rattle.attach_proto.specs.declared.why.Why.TheVariants as why
use Rattle.client_words.specs.declared.fault.PeerFault.{PeerFault}
use Rattle.client_words.specs.declared.fault.PeerFault.TheVariants as fault
use Rattle.server_client.specs.declared.ending.EndMessage.{EndMessage}
use Rattle.server_client.specs.declared.ending.EndMessage.TheVariants.{Nothing, Gone, Unanswered, Said, Fault}

-- Whether the user left, the arguments ask for each end, and the session said something before it let the peer in. A
-- good end is told only if that is asked for, and so is the user's. The session's text comes before its GONE.
abbrev pub message_of : Bool → Bool → Bool → Result Why PeerFault → EndMessage
message_of has_left true has_said (Ok gone) = Gone gone
message_of has_left false has_said (Ok gone) = Nothing
message_of true true has_said (Err f) = Unanswered
message_of true false has_said (Err f) = Nothing
message_of false asks true (Err (fault.Gone why.Fault)) = Said
message_of false asks has_said (Err f) = Fault f
