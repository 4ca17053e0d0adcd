use Rattle.std.proofs.Common.{◌≡◌, ◌==◌, ℕ, Some, is_some, length, slice_get}
use Rattle.server.specs.Starting.{IsStart}
use Rattle.server.specs.declared.loop_handle.LoopStart.{LoopStart}
use Rattle.server.proofs.loop_handle.places.Given as goal

-- the next loop alone asks for the listener if it is the first
abbrev pub invariant-loop-me : goal.invariant-loop-me
invariant-loop-me g l =
    (length l.starts.items ≡ l.me) × (length l.loop_handles.items ≡ l.me) × (is_some l.listener ≡ (l.me == 0))
    × ((k : ℕ) (start : LoopStart) → slice_get l.starts.items k ≡ Some start → IsStart k (k == 0) start)
