-- A terminal that is brought back by bytes.
use Rattle.std.specs.Prelude.{◌≡◌, ℕ, List, []}
use Rattle.terminal_model.specs.Reading.{Read, ready, reads}
use Rattle.terminal_model.specs.Screen.{Screen, starting}
use Rattle.emulator.specs.Standing.{Parts, StandsFor}

-- a new screen of the emulator's size
abbrev pub starting_as : Parts → Screen
starting_as e = starting e.screen.state.rows e.screen.state.columns e.screen.keep

-- a new terminal of the emulator's size reads bytes
abbrev pub rebuilt : Parts → List ℕ → Read
rebuilt e bytes = reads (ready (starting_as e)) bytes

-- a new terminal of the emulator's size that has read these bytes is one that the emulator stands for, and it was asked
-- nothing
pub record BringsBack (e : Parts) (bytes : List ℕ) : Type 0 where
  pub stands : StandsFor e (rebuilt e bytes).terminal
  pub silent : (rebuilt e bytes).reports ≡ []
