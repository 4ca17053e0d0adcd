use Rattle.hub_ledger.proofs.Vocabulary.{◌≡◌, ◌≤◌, ◌<◌, ◌+◌, ℕ, Some, slice_get, vec_len, vec_capacity, Vec, Global}
use Rattle.hub_ledger.proofs.Vocabulary.{Sent, views}
use Rattle.hub_ledger.proofs.waiting.make_room.Given as goal

abbrev pub invariant-loop-i : goal.invariant-loop-i
invariant-loop-i l = record {
  same : views l.waiting ≡ views l.initial.waiting;
  room : (k : ℕ) (v : Vec Sent Global) → k < l.i → slice_get l.waiting k ≡ Some v → vec_len v + 256 ≤ vec_capacity v;
}
