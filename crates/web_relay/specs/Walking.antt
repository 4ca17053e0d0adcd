-- What is done again and again.
use Rattle.std.specs.Prelude.{◌≡◌, ◌⊎◌, ℕ, zero, suc}

module _ {T : Type 0} (IsTime : T → Type 0) (steps : T → T → Type 0) where
  -- a step was made after the other as long as it was time for one, but at most so many
  abbrev pub Repeats : ℕ → T → T → Type 0
  Repeats zero old new = new ≡ old
  Repeats (suc count) old new =
      ((IsTime old → ⊥) × (new ≡ old)) ⊎ (IsTime old × (mid : T) × steps old mid × Repeats count mid new)
