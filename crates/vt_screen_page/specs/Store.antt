-- The lines of a page are stored in any order. The places say which stored line is which line of
-- the page.
use Rattle.std.specs.Prelude.{◌≡◌, ℕ, ◌+◌, ◌-◌, ◌<◌, ◌≤◌, cond, nat_le, List, map, length, slice_index}
use Rattle.std.specs.List.{range_with_len}
use Rattle.cells.specs.declared.cell.Cell.{Cell}
use Rattle.cells.specs.Moves.{is_between}
use Rattle.cells.specs.Page.{line_at, IsGrid, Origin, From}

-- the stored lines in the order of the page
abbrev pub lines_in_order : List (List Cell) → List ℕ → List (List Cell)
lines_in_order stored places = map (λ place. line_at stored place) places

-- the lines of a page, and for each the number of its stored line
pub record Placed : Type 0 where
  pub lines : List (List Cell)
  pub places : List ℕ

-- lines of a page that are stored in their order
abbrev pub placed_in_order : ℕ → List (List Cell) → Placed
placed_in_order rows lines = record { lines = lines; places = range_with_len 0 rows }

-- where a place was before: those from top to bottom were rotated, so that the first count of them
-- come last
abbrev pub turned_from : ℕ → ℕ → ℕ → ℕ → ℕ
turned_from top bottom count line =
    cond (is_between top bottom line)
    (cond (nat_le (line + count) bottom) (line + count) (line + count - (bottom + 1 - top)))
    line

abbrev pub turned : ℕ → ℕ → ℕ → List ℕ → List ℕ
turned top bottom count places =
    map (λ line. slice_index places (turned_from top bottom count line))
    (range_with_len 0 (length places))

-- the lines that are rotated so
abbrev pub turned_lines : ℕ → ℕ → ℕ → ℕ → ℕ → Origin
turned_lines top bottom count line column = From (turned_from top bottom count line) column

-- numbers of stored lines, no two alike
pub record ArePlaces (size : ℕ) (places : List ℕ) : Type 0 where
  pub inside : (k : ℕ) → k < length places → slice_index places k < size
  pub apart : (k j : ℕ) → k < length places → j < length places
      → slice_index places k ≡ slice_index places j → k ≡ j

-- stored lines that make a grid in the order of their places
pub record IsStore (stored : List (List Cell)) (places : List ℕ) : Type 0 where
  pub places_apart : ArePlaces (length stored) places
  pub grid : IsGrid (lines_in_order stored places)

-- the places from top to bottom were rotated: the first count of them come last
pub record IsTurned (top bottom count : ℕ) (old new : List ℕ) : Type 0 where
  pub size : length new ≡ length old
  pub above : (k : ℕ) → k < top → slice_index new k ≡ slice_index old k
  pub risen : (k : ℕ) → top ≤ k → k + count ≤ bottom
      → slice_index new k ≡ slice_index old (k + count)
  pub last : (k : ℕ) → top ≤ k → k ≤ bottom → bottom < k + count
      → slice_index new k ≡ slice_index old (k + count - (bottom + 1 - top))
  pub below : (k : ℕ) → bottom < k → slice_index new k ≡ slice_index old k
