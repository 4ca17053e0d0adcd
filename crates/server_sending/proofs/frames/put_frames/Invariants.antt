use Rattle.std.proofs.Common.{◌≡◌, ℕ, List, ◌++◌}
use Rattle.std.specs.Slice.Iter.{chunks_rest, chunks_size}
use Rattle.server_sending.specs.Frames.{PutsFrames}
use Rattle.server_sending.proofs.frames.put_frames.Given as goal

-- what was put, and what is left
abbrev pub invariant-loop-piece : goal.invariant-loop-piece
invariant-loop-piece l =
    goal.iterator-loop-piece.can_next l.piece-iterator
    × goal.iterator-loop-piece.is_finite l.piece-iterator
    × (chunks_size l.piece-iterator ≡ 8192)
    × (done : List ℕ)
    × (done ++ chunks_rest l.piece-iterator ≡ l.bytes)
    × PutsFrames l.kind l.typist done l.fn.turn l.turn
