-- What goes to no server before a window is opened again, step after step.
use Rattle.std.proofs.Common.{refl, ◌∙◌}
use Rattle.client_peer.specs.declared.peer.Peer.{Peer}
use Rattle.client_peer.specs.Meeting.{StaysClosed}

pub closed_same : (s : Peer) → StaysClosed s s
closed_same s =
    record { subcommand = refl; was = λ w. w; frames = λ is. refl; again = λ is w h. h; input = λ is c. refl }

pub closed_then : (old middle new : Peer) → StaysClosed old middle → StaysClosed middle new → StaysClosed old new
closed_then old middle new a b = record {
  subcommand = b.subcommand ∙ a.subcommand;
  was = λ w. b.was (a.was w);
  frames = λ is. b.frames (a.subcommand ∙ is) ∙ a.frames is;
  again = λ is w h. a.again is w (b.again (a.subcommand ∙ is) (a.was w) h);
  input = λ is c.
      b.input (a.subcommand ∙ is) (a.was c.0, λ h. c.1 (a.again is c.0 h)) ∙ a.input is c;
}
