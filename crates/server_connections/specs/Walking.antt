-- A walk over the connections that are awake.
use Rattle.std.specs.Prelude.{◌≡◌, ◌⊎◌, ◌<◌, ◌≤◌, ◌+◌, ℕ, zero, suc, List}
use Rattle.std.specs.Borrow.{MutBor}
use Rattle.server_connections.specs.Marked.{IsMarked, IsNext}

module _ {T : Type 0} (awake : T → List ℕ) (visits : MutBor T → ℕ → Unit {0} → MutBor T → Type 0) where
  -- a visit to this key
  pub record IsVisited (key : ℕ) (old new : T) : Type 0 where
    pub shown : MutBor T
    pub shows : shown.now ≡ old
    pub left : MutBor T
    pub leaves : left.now ≡ new
    pub visited : visits shown key tt left

  -- from one key up to another one, in at most as many visits: each is to the next key that is awake by then
  abbrev pub Walks : ℕ → ℕ → ℕ → T → T → Type 0
  Walks zero from end old new = new ≡ old
  Walks (suc count) from end old new =
      (((key : ℕ) → from ≤ key → key < end → ¬ (IsMarked (awake old) key)) × (new ≡ old))
      ⊎ ((key : ℕ) × (mid : T) × (key < end) × IsNext (awake old) from key × IsVisited key old mid
      × Walks count (key + 1) end mid new)
