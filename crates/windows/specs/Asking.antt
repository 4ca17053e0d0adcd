-- What a table of windows can be asked.
use Rattle.std.specs.Prelude.{ℕ, ◌≡◌, ◌++◌, ◌∷◌, [], List, Option, Some, Result, OnOk}
use Rattle.std.specs.Option.{option_map}
use Rattle.terminal_model.specs.Reading.{reads}
use Rattle.windows_model.specs.Table as model
use Rattle.windows_model.specs.declared.rows.WindowsFault.{WindowsFault}
use Rattle.windows_model.specs.Naming.{window_after, window_before, free_number}
use Rattle.windows_model.specs.Terminals.{terminal_of}
use Rattle.windows_model.specs.Matched.{BothOrNone}
use Rattle.windows.specs.declared.window.Window.{Window}
use Rattle.windows.specs.Standing.{WindowStands, StandFor, AnswersIfRoom, at_serial, number_for, opened}

-- the number of a row
abbrev pub number : model.Window → ℕ
number w = w.number

-- the window after the one with this number, and the one before it
abbrev pub FindsAfter : Option ℕ → List Window → Option Window → Type 0
FindsAfter from ws found = (rows : List model.Window) (w : Option model.Window) →
    StandFor rows ws → option_map number w ≡ from →
    BothOrNone WindowStands (window_after rows w) found

abbrev pub FindsBefore : Option ℕ → List Window → Option Window → Type 0
FindsBefore from ws found = (rows : List model.Window) (w : Option model.Window) →
    StandFor rows ws → option_map number w ≡ from →
    BothOrNone WindowStands (window_before rows w) found

-- the lowest number that no window has
abbrev pub IsFree : List Window → ℕ → Type 0
IsFree ws n = (rows : List model.Window) → StandFor rows ws → free_number rows ≡ Some n

-- the number of a window that opens with this serial
abbrev pub IsNumberFor : ℕ → List Window → Option ℕ → Type 0
IsNumberFor s ws n = (rows : List model.Window) → StandFor rows ws → n ≡ number_for s rows

-- a window was opened, or the call was refused
abbrev pub Opens : {A : Type 0} →
    ℕ → ℕ → ℕ → ℕ → List ℕ → List Window → Result A WindowsFault → List Window → Type 0
Opens s rows columns keep title = AnswersIfRoom (opened s rows columns keep title)

-- the table has one window more, at its end
abbrev pub IsOneMore : List Window → List Window → Type 0
IsOneMore old new = (w : Window) × (new ≡ old ++ w ∷ [])

-- what the window's terminal answers to these bytes is appended
abbrev pub AnswersReports : ℕ → List ℕ → List Window → List ℕ → List ℕ → Type 0
AnswersReports s bytes old before after = (rows : List model.Window) (w : model.Window) →
    StandFor rows old → at_serial s rows ≡ Some w →
    after ≡ before ++ (reads (terminal_of w) bytes).reports

abbrev pub Reports : {A : Type 0} →
    ℕ → List ℕ → List Window → Result A WindowsFault → List ℕ → List ℕ → Type 0
Reports s bytes old result before after =
    OnOk result (AnswersReports s bytes old before after)
