-- What is written to one window, and what a change makes of it.
use Rattle.std.specs.Prelude.{ℕ, ◌≡◌, ◌⊎◌, ◌++◌, List, Result, Ok, Err}
use Rattle.terminal_model.specs.Reading.{reads}
use Rattle.terminal_model.specs.Writing.{Writing, Output}
use Rattle.windows_model.specs.declared.rows.WindowsFault.{WindowsFault}
use Rattle.windows_model.specs.declared.rows.WindowsFault.TheVariants.{NoMemory}
use Rattle.windows_model.specs.Table as model
use Rattle.windows_model.specs.Terminals.{terminal_of}
use Rattle.windows.specs.declared.window.Window.{Window}
use Rattle.windows.specs.Standing.{WindowStands, Change, written_to, resized, retitled}

-- something was written to the window
abbrev pub Writes : Writing → Window → Window → Type 0
Writes what old new = (m : model.Window) → WindowStands m old → WindowStands (written_to what m) new

-- the window became what the change makes of it, or the call was refused as the change refuses it,
-- or because memory was refused
abbrev pub Became : {A : Type 0} → Result model.Window WindowsFault → Result A WindowsFault → Window → Type 0
Became change (Ok a) new = (m : model.Window) × (change ≡ Ok m) × WindowStands m new
Became change (Err r) new = (r ≡ NoMemory) ⊎ (change ≡ Err r)

abbrev pub Becomes : {A : Type 0} → Change → Window → Result A WindowsFault → Window → Type 0
Becomes change old result new =
    (m : model.Window) → WindowStands m old → Became (change m) result new

abbrev pub Resizes : {A : Type 0} → ℕ → ℕ → Window → Result A WindowsFault → Window → Type 0
Resizes rows columns old result new = Becomes (resized rows columns) old result new

abbrev pub Retitles : {A : Type 0} → List ℕ → Window → Result A WindowsFault → Window → Type 0
Retitles title old result new = Becomes (retitled title) old result new

-- the window's terminal has read these bytes, and its answer is appended
pub record HasFed (old : Window) (bytes before after : List ℕ) (new : Window) : Type 0 where
  pub writes : Writes (Output bytes) old new
  pub reports : (m : model.Window) → WindowStands m old →
      after ≡ before ++ (reads (terminal_of m) bytes).reports
