use Rattle.hub_ledger.proofs.Vocabulary.{◌≡◌, ◌≤◌, ◌+◌, ◌++◌, length, ℕ, Some, slice_get, vec_len, vec_capacity}
use Rattle.hub_ledger.proofs.Vocabulary.{AllByRecursion, into_iter_items, Vec, Global, HasPeer, owners_of, Sent, views}
use Rattle.hub_ledger.proofs.Queues.{Waits}
use Rattle.hub_ledger.proofs.waiting.route.Given as goal

abbrev pub invariant-loop-effect : goal.invariant-loop-effect
invariant-loop-effect l = record {
  can : (goal.iterator-loop-effect).can_next l.effect-iterator;
  finite : (goal.iterator-loop-effect).is_finite l.effect-iterator;
  all : l.fn.effects.items ≡ l.yielded ++ into_iter_items l.effect-iterator;
  come : AllByRecursion (HasPeer (owners_of l.peers)) (into_iter_items l.effect-iterator);
  waits : Waits (owners_of l.peers) l.fn.typist l.yielded (views l.initial.waiting) (views l.waiting);
  room : (k : ℕ) (v : Vec Sent Global) → slice_get l.waiting k ≡ Some v
      → vec_len v + 256 ≤ vec_capacity v + length l.yielded;
}
