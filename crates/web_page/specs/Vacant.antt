-- Pages that show no window.
use Rattle.std.specs.Prelude.{◌≡◌, ℕ, ◌+◌, ◌-◌, ◌<◌, ◌≤◌, Bool, true, false, ◌&&◌, ◌==◌, List, [], ◌∷◌, length}
use Rattle.std.specs.List.{list_all}
use Rattle.cells.specs.declared.cell.Cell.{Cell}
use Rattle.cells.specs.Page.{line_at}

abbrev pub is_blank : Cell → Bool
is_blank c = c.character == 0x20

-- the caption of a region without a window: --
abbrev pub is_caption : List Cell → Bool
is_caption [] = false
is_caption (a ∷ []) = false
is_caption (a ∷ b ∷ rest) = (a.character == 0x2D) && (b.character == 0x2D) && list_all is_blank rest

-- a client's page: the last row is for messages, the one above it is the caption, and the others are blank
pub record IsVacant (page : List (List Cell)) : Type 0 where
  pub tall : 2 ≤ length page
  pub caption : is_caption (line_at page (length page - 2)) ≡ true
  pub blank : (n : ℕ) → n + 2 < length page → list_all is_blank (line_at page n) ≡ true
