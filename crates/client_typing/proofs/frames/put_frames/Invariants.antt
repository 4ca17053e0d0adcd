use Rattle.std.proofs.Common.{◌≡◌, ℕ, List, ◌++◌, length}
use Rattle.client_typing.specs.Framing.{Sends}
use Rattle.client_typing.proofs.frames.put_frames.Given as goal

abbrev pub invariant-pieces : goal.invariant-pieces
invariant-pieces l = record {
  front : List ℕ;
  sends : Sends l.fn.frames.items l.frames.items l.kind front;
  whole : front ++ l.rest ≡ l.fn.bytes;
}

abbrev pub decreases-pieces : goal.decreases-pieces
decreases-pieces l = length l.rest
