-- What is done again and again.
use Rattle.std.specs.Prelude.{◌≡◌, ◌⊎◌, ◌≤◌, ℕ, zero, suc}

module _ {T : Type 0} (steps : ℕ → T → T → Type 0) where
  -- it was done so many times, each after the other
  abbrev pub Many : ℕ → T → T → Type 0
  Many zero old new = new ≡ old
  Many (suc count) old new = (mid : T) × Many count old mid × steps count mid new

  -- it was done until this ended it (or 2 ^ 64 - 1 times, which never happens)
  abbrev pub Until : (ℕ → T → T → Type 0) → T → T → Type 0
  Until ends old new = (count : ℕ) × (mid : T) × Many count old mid
      × (ends count mid new ⊎ ((18446744073709551615 ≤ count) × (new ≡ mid)))
