-- The sizes of a screen.
use Rattle.std.specs.Prelude.{ℕ, ◌≤◌}
use Rattle.cells.specs.Page.{IsGridSize}

-- 2 to 200 lines by 2 to 300 columns, and at most 2,000 lines to keep
pub record IsScreenSize (rows columns keep : ℕ) : Type 0 where
  pub grid : IsGridSize rows columns
  pub few : keep ≤ 2000
