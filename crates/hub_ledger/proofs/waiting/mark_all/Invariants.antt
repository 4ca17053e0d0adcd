use Rattle.hub_ledger.proofs.Vocabulary.{◌≡◌, ◌<◌, true, ℕ, Some, slice_get}
use Rattle.hub_ledger.proofs.waiting.mark_all.Given as goal

abbrev pub invariant-loop-i : goal.invariant-loop-i
invariant-loop-i l = (k : ℕ) → k < l.i → slice_get l.marks k ≡ Some true
