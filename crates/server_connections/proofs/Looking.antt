-- A look at the keys that are marked, one after the other.
use Rattle.std.proofs.Common.{◌≡◌, ◌<◌, ◌+◌, ℕ, List, subst, arith, inl, inr}
use Rattle.std.proofs.lemmas.Bool.{cases_lt}
use Rattle.slab.specs.Slab.{Slab}
use Rattle.server_connections.specs.Marked.{IsMarked, IsNext}
use Rattle.server_connections.specs.Peers.{AwaitsAt}
use Rattle.server_connections.specs.declared.peer.Awaits.{Awaits}
use Rattle.server_connections.specs.declared.peer.Peer.{Peer}

-- one more key was looked at: the next that is marked
pub looked_at : {S : Type 0} (peers : Slab (Peer S)) (what : Awaits) (words : List ℕ) (from key : ℕ)
    → ((k : ℕ) → k < from → IsMarked words k → AwaitsAt peers what k → ⊥)
    → IsNext words from key → (AwaitsAt peers what key → ⊥)
    → (k : ℕ) → k < key + 1 → IsMarked words k → AwaitsAt peers what k → ⊥
looked_at peers what words from key before next free k below marks is =
    elim (cases_lt k from) [
      | inl lt ↦ before k lt marks is
      | inr le ↦ elim (cases_lt k key) [
        | inl lt ↦ next.first k le lt marks
        | inr ge ↦
            let e : k ≡ key = omega (arith, ge, below) in
            free (subst (λ (n : ℕ). AwaitsAt peers what n) e is)
      ]
    ]
