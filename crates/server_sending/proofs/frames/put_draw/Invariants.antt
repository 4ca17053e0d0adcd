use Rattle.std.proofs.Common.{◌≡◌, ◌++◌, ◌<◌, ℕ, List, length}
use Rattle.server_sending.proofs.Drawing.{Begins}
use Rattle.server_sending.proofs.frames.put_draw.Given as goal

-- what was put, and what is left
abbrev pub invariant-pieces : goal.invariant-pieces
invariant-pieces l = record {
  done : List ℕ;
  whole : done ++ l.rest ≡ l.fn.bytes;
  begins : Begins done l.fn.turn l.turn;
  ends : 1 < length l.fn.bytes → 1 < length l.rest;
}

abbrev pub decreases-pieces : goal.decreases-pieces
decreases-pieces l = length l.rest
