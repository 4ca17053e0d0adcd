-- The connections that are awake, one by one.
use Rattle.std.proofs.Common.{◌+◌, ℕ, zero, suc, ap, subst, inl, inr, MutBor}
use Rattle.server_connections.specs.Walking.{Walks}
use Rattle.server_loop.specs.Submitting.{State}
use Rattle.server_loop.specs.Walking.{Passes}

module _ {T S J : Type 0} (view : T → State S J) (visits : ℕ → State S J → State S J → Type 0)
    (post : MutBor T → ℕ → Unit {0} → MutBor T → Type 0)
  where
    -- a walk whose visits are these
    pub passed : (count from end : ℕ) (old new : T)
        → Walks (λ t. (view t).connections.awake) post count from end old new
        → ((shown left : MutBor T) (key : ℕ) → post shown key tt left → visits key (view shown.now) (view left.now))
        → Passes visits count from end (view old) (view new)
    passed zero from end old new is each = ap view is
    passed (suc count) from end old new (inl none) each = inl (none.0, ap view none.1)
    passed (suc count) from end old new (inr (key, mid, within, next, visit, rest)) each =
        let visited : visits key (view old) (view mid) =
        subst (λ (t : T). visits key (view old) (view t)) visit.leaves
        (subst (λ (t : T). visits key (view t) (view visit.left.now)) visit.shows
        (each visit.shown visit.left key visit.visited)) in
        inr (key, view mid, within, next, visited, passed count (key + 1) end mid new rest each)
