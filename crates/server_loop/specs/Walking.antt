-- The connections of a loop that are awake have their turn, and what is done again and again.
use Rattle.std.specs.Prelude.{◌≡◌, ◌⊎◌, ◌<◌, ◌≤◌, ◌+◌, ℕ, zero, suc, Bool, true, false}
use Rattle.server_connections.specs.Marked.{IsMarked, IsNext}
use Rattle.server_loop.specs.Submitting.{State}

module _ {S J : Type 0} (visits : ℕ → State S J → State S J → Type 0) where
  -- from one key up to another one, in at most as many visits: each is to the next key that is awake by then
  abbrev pub Passes : ℕ → ℕ → ℕ → State S J → State S J → Type 0
  Passes zero from end old new = new ≡ old
  Passes (suc count) from end old new =
      (((key : ℕ) → from ≤ key → key < end → ¬ (IsMarked old.connections.awake key)) × (new ≡ old))
      ⊎ ((key : ℕ) × (mid : State S J) × (key < end) × IsNext old.connections.awake from key × visits key old mid
      × Passes count (key + 1) end mid new)

  -- each connection that is awake was visited once, in the order of the keys
  abbrev pub VisitsAll : State S J → State S J → Type 0
  VisitsAll old new = Passes old.connections.peers.capacity 0 old.connections.peers.capacity old new

module _ {T : Type 0} (steps : T → Bool → T → Type 0) where
  -- a step was made after the other while each says that it is to go on, but at most so many
  abbrev pub Repeats : ℕ → T → T → Type 0
  Repeats zero old new = new ≡ old
  Repeats (suc count) old new =
      steps old false new ⊎ ((mid : T) × steps old true mid × Repeats count mid new)
