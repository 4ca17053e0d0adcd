-- Where HT goes.
use Rattle.std.specs.Prelude.{◌≡◌, ℕ, ◌<◌, Bool, List, length, slice_index}
use Rattle.terminal_model.specs.Motion.{next_stop}

-- `next` has the next stop of each column
abbrev pub AreNext : List Bool → List ℕ → Type 0
AreNext stops next =
    (column : ℕ) → column < length stops
    → slice_index next column ≡ next_stop stops (length stops) column
