-- The slots that open windows stand in. A slot holds a window's serial number, or nothing.
use Rattle.std.specs.Prelude.{◌≡◌, ℕ, ◌≤◌, Bool, false, ◌==◌, List, [], ◌∷◌, Option, Some, None}
use Rattle.std.specs.Prelude.{is_some, is_none, position, length, ◌+◌, if◌then◌else◌}
use Rattle.std.specs.Option.{option_map_or}
use Rattle.acl_words.specs.declared.slots.TheConstants.{WINDOWS}

abbrev pub is_window : ℕ → Option ℕ → Bool
is_window w slot = option_map_or (λ v. v == w) slot false

-- the slot of a window
abbrev pub slot_of : List (Option ℕ) → ℕ → Option ℕ
slot_of slots w = position (is_window w) slots

-- a slot's content after the window is closed
abbrev pub without_window : ℕ → Option ℕ → Option ℕ
without_window w slot = if is_window w slot then None else slot

-- the first free slot
abbrev pub free_slot : List (Option ℕ) → Option ℕ
free_slot slots = position is_none slots

-- how many slots hold a window
abbrev pub filled : List (Option ℕ) → ℕ
filled [] = 0
filled (None ∷ slots) = filled slots
filled (Some w ∷ slots) = filled slots + 1

-- exactly these windows stand in the slots, and there are at most `count` of them; the number of
-- slots, 40, is stated here because a proof in another crate can't know the length of an array in a
-- private field
pub record SlotsStandFor (slots : List (Option ℕ)) (is_open : ℕ → Bool) (count : ℕ) : Type 0 where
  pub shown : (w : ℕ) → is_some (slot_of slots w) ≡ is_open w
  pub few : filled slots ≤ count
  pub all : length slots ≡ WINDOWS
