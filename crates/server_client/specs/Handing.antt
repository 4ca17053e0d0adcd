-- What a seat makes of what a peer's threads hand to it.
use Rattle.std.specs.Prelude.{◌≡◌, ℕ, List, [], Bool, true, false, Option, Some, None, Result, Ok, Err, IfErr, IfOk}
use Rattle.std.specs.Prelude.{OnOk}
use Rattle.std.specs.Option.{option_or}
use Rattle.std.specs.declared.io.Error.{Error}
use Rattle.attach_proto.specs.declared.why.Why.{Why}
use Rattle.attach_proto.specs.declared.why.Why.TheVariants.{Detached}
use Rattle.client_words.specs.declared.arguments.Subcommand.TheVariants.{Ping}
use Rattle.client_words.specs.declared.fault.PeerFault.{PeerFault}
use Rattle.client_words.specs.declared.fault.PeerFault.TheVariants.{Ended, Refused}
use Rattle.client_words.specs.declared.fault.RefusedPart.TheVariants.{Output}
use Rattle.client_peer.specs.Ending.{EndsOutput}
use Rattle.client_peer.specs.Failing.{FailsRead, FailsTyping}
use Rattle.client_peer.specs.Hearing.{HearsRead}
use Rattle.client_peer.specs.Typing.{TypesIn, typed_in}
use Rattle.client_peer.specs.declared.peer.Peer.{Peer}
use Rattle.server_client.specs.declared.shared.PeerSeat.{PeerSeat}

-- a peer that ends so, unless it has ended
abbrev pub ended : Peer → Result Why PeerFault → Peer
ended old end = record old { end = option_or old.end (Some end) }

-- a peer that has ended by this fault, unless it had ended before
abbrev pub EndsFor : PeerFault → Peer → Type 0
EndsFor fault new = (at : Peer) × (new ≡ ended at (Err fault))

-- a seat whose peer has changed, and nothing else
abbrev pub with_peer : PeerSeat → Peer → PeerSeat
with_peer old peer = record old { peer = peer }

-- what a read of the connection makes of a peer: it ends as the messages say, or by the fault that they have
abbrev pub after : Result (Option (Result Why PeerFault)) PeerFault → Peer → Peer
after (Ok None) at = at
after (Ok (Some end)) at = ended at end
after (Err fault) at = ended at (Err fault)

abbrev pub goes_on : Result (Option (Result Why PeerFault)) PeerFault → Bool
goes_on (Ok None) = true
goes_on other = false

-- The seat's peer heard the messages that a read completes, as the seat's reader cuts them, and it has ended if the
-- connection has: by its stream's end, by a message, or by a fault. A ping needs no message.
pub record HearsHere (old : PeerSeat) (bytes : List ℕ) (goes : Bool) (new : PeerSeat) : Type 0 where
  pub heard : Result (Option (Result Why PeerFault)) PeerFault
  pub at : Peer
  pub ends : (new.peer ≡ after heard at) × (goes ≡ goes_on heard)
  pub stream : (old.peer.subcommand ≡ Ping → ⊥) → bytes ≡ [] → heard ≡ Ok (Some (Err Ended))
  pub ping : old.peer.subcommand ≡ Ping → (heard ≡ Ok (Some (Ok Detached))) × (at ≡ old.peer)
  pub hears : (old.peer.subcommand ≡ Ping → ⊥) → (bytes ≡ [] → ⊥)
      → IfOk heard (HearsRead old.peer old.reader bytes at new.reader)
  pub fault : IfErr heard (FailsRead old.peer old.reader bytes new.reader)
  pub rest : new ≡ record old { peer = new.peer; reader = new.reader }

-- The seat's peer typed what was read of the input, unless that was its end.
pub record TypesHere (old : PeerSeat) (bytes : List ℕ) (more : Result Bool PeerFault) (new : PeerSeat) : Type 0 where
  pub types : (bytes ≡ [] → ⊥) → OnOk more ((more ≡ Ok true) × TypesIn old.peer new.peer bytes)
  pub end : bytes ≡ [] → (more ≡ Ok false) × (new ≡ old)
  pub fault : IfErr more (FailsTyping old.peer new.peer)
  pub rest : new ≡ with_peer old (typed_in old.peer new.peer)

-- The seat's peer goes on if its output was written, and ends by the system's error if it wasn't.
abbrev pub EndsWriting : PeerSeat → Result (Prim.Unit {0}) Error → PeerSeat → Type 0
EndsWriting old (Ok done) new = new ≡ with_peer old (record old.peer { is_writing = false })
EndsWriting old (Err e) new = EndsOutput old.peer (Refused Output e) new.peer × (new ≡ with_peer old new.peer)
