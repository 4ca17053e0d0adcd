use Rattle.redraw.proofs.Vocabulary.{◌≡◌, ◌≤◌, ◌+◌, ◌*◌, drop, all_bytes}
use Rattle.redraw.proofs.rendition.all_bytes.Given as goal

abbrev pub invariant-loop-index : goal.invariant-loop-index
invariant-loop-index l = (l.bytes + all_bytes (drop l.index l.values) ≡ all_bytes l.values) × (l.bytes ≤ 3 * l.index)
