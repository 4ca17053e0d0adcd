-- The page moved back into its scrollback.
use Rattle.std.specs.Prelude.{◌≤◌, ℕ, length}
use Rattle.terminal_model.specs.Screen.{Screen, IsSound}

-- a sound screen, whose scrollback has this number of lines or more
pub record IsMovedBack (x : Screen) (back : ℕ) : Type 0 where
  pub sound : IsSound x
  pub few : back ≤ length x.kept
