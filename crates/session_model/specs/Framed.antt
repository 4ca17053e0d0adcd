-- A frame that is delivered after other deliveries.
use Rattle.std.specs.Prelude.{◌≡◌, ℕ, List, [], ◌∷◌, ◌++◌}
use Rattle.terminal_model.specs.Screen.{Page, blank_page}
use Rattle.terminal_model.specs.Reading.{Terminal, Act, reads}
use Rattle.terminal_model.specs.Shows.{View, IsOfSize}
use Rattle.terminal_model.specs.Drawing.{frame_bytes, Draws, AreSpelled}

-- how the frame begins: with the reset exactly if it is the first
abbrev pub beginning_behind : List ℕ → List ℕ
beginning_behind [] = frame_bytes
beginning_behind (b ∷ before) = []

-- the page on which the frame is drawn: the reset's blank page, or the one that the earlier
-- deliveries left
abbrev pub page_behind : ℕ → ℕ → List ℕ → Terminal → Page
page_behind rows columns [] t = blank_page rows columns
page_behind rows columns (b ∷ before) t = (reads t (b ∷ before)).terminal.screen.page

-- the acts of a terminal that reads bytes after it read others
abbrev pub acts_behind : Terminal → List ℕ → List ℕ → List Act
acts_behind t before bytes = (reads (reads t before).terminal bytes).acts

-- the acts of a terminal that reads what follows the frame's beginning
abbrev pub acts_drawn : Terminal → List ℕ → List ℕ → List Act
acts_drawn t before rest = acts_behind t (before ++ beginning_behind before) rest

-- For each terminal of the client's size: what follows the beginning of the frame is discreet and
-- spare, and contains no string.
pub record IsFrame (rows columns : ℕ) (before : List ℕ) (v : View) (bytes : List ℕ) : Type 0 where
  pub rest : List ℕ
  pub begins : bytes ≡ beginning_behind before ++ rest
  pub draws : (t : Terminal) → IsOfSize rows columns t
      → Draws (page_behind rows columns before t) v.page (acts_drawn t before rest)
  pub spelled : (t : Terminal) → IsOfSize rows columns t
      → AreSpelled rest (acts_drawn t before rest)
