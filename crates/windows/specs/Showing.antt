-- The lines of a window's page.
use Rattle.std.specs.Prelude.{ℕ, ◌≡◌, List, map}
use Rattle.std.specs.Borrow.{Bor}
use Rattle.cells.specs.declared.cell.Cell.{Cell}
use Rattle.terminal_model.specs.Scrollback.{moved_back}
use Rattle.windows.specs.declared.window.Window.{Window}

abbrev pub cells_of : List (Bor (List Cell)) → List (List Cell)
cells_of lines = map (λ line. line.now) lines

-- the lines of the window's page, moved back by this many kept lines, or by all if there are fewer
abbrev pub AreLines : ℕ → Window → List (Bor (List Cell)) → Type 0
AreLines back w lines = cells_of lines ≡ moved_back back w.emulator.screen
