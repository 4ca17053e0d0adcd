-- What a window consists of.
use Rattle.std.specs.Prelude.{ℕ, Bool, ◌&&◌, nat_le, List}
use Rattle.terminal_model.specs.Writing.{Writing}

-- A window: its serial, its number, its title, the size with which it was opened, how many lines it
-- keeps above its page, and everything that was written to it.
pub record Window : Type 0 where
  pub serial : ℕ
  pub number : ℕ
  pub title : List ℕ
  pub rows : ℕ
  pub columns : ℕ
  pub keep : ℕ
  pub writing : List Writing

-- a window has 2 to 200 lines by 2 to 300 columns, and keeps at most 2,000 lines above its page
abbrev pub is_window_size : ℕ → ℕ → ℕ → Bool
is_window_size rows columns keep =
    nat_le 2 rows && nat_le rows 200 && nat_le 2 columns && nat_le columns 300 && nat_le keep 2000
