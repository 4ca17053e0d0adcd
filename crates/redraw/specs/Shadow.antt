-- What is known of a client's terminal.
use Rattle.std.specs.Prelude.{◌≡◌, ◌<◌, ◌≤◌, ℕ, length, Option, Some}
use Rattle.terminal_model.specs.Screen.{Page}
use Rattle.terminal_model.specs.Shows.{View, seen_at}
use Rattle.view.specs.View.{HasSize}

-- a terminal's size, and the view that it shows; without a view it may be in any state
pub record Knowledge : Type 0 where
  pub rows : ℕ
  pub columns : ℕ
  pub known : Option View

-- this size, and this view
abbrev pub knowledge_of : ℕ → ℕ → Option View → Knowledge
knowledge_of rows columns known = record { rows = rows; columns = columns; known = known }

-- the known view has the terminal's size
abbrev pub IsSound : Knowledge → Type 0
IsSound k = (v : View) → k.known ≡ Some v → HasSize k.rows k.columns v

-- two pages look the same above this line
abbrev pub AreAlikeAbove : ℕ → Page → Page → Type 0
AreAlikeAbove line a b = (l column : ℕ) → l < line → seen_at a l column ≡ seen_at b l column

-- both pages look the same above this line, which the second page has or ends at
abbrev pub AreAlikeUpTo : ℕ → Page → Page → Type 0
AreAlikeUpTo line a b = (line ≤ length b) × AreAlikeAbove line a b
