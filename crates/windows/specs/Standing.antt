-- The windows that a table stands for.
use Rattle.std.specs.Prelude.{ℕ, ◌≡◌, ◌⊎◌, ◌==◌, Bool, false, not, nat_lt, List, [], ◌∷◌, ◌++◌}
use Rattle.std.specs.Prelude.{Option, Some, None, Result, Ok, Err, if◌then◌else◌, filter}
use Rattle.std.specs.List.{list_all}
use Rattle.std.specs.Option.{option_map_or}
use Rattle.std.specs.String.{string_bytes}
use Rattle.terminal_model.specs.Drawable.{IsDrawableScreen}
use Rattle.terminal_model.specs.Writing.{Writing}
use Rattle.terminal_model.specs.Writing as terminal
use Rattle.emulator.specs.Standing as emulator
use Rattle.windows_model.specs.declared.rows.WindowsFault.{WindowsFault}
use Rattle.windows_model.specs.declared.rows.WindowsFault.TheVariants.{Full, NoSuchWindow}
use Rattle.windows_model.specs.declared.rows.WindowsFault.TheVariants.{NumberTaken, BadTitle, NoMemory}
use Rattle.windows_model.specs.Table as model
use Rattle.windows_model.specs.Finding.{row_of, with_row}
use Rattle.windows_model.specs.Naming.{with_number, free_number, is_title}
use Rattle.windows_model.specs.Terminals.{terminal_of}
use Rattle.windows_model.specs.Matched.{Matched, BothOrNone}
use Rattle.windows.specs.declared.window.Window.{Window}

-- the window has the serial, number and title of its definition, and a terminal that has read
-- everything that was written to it
pub record WindowStands (m : model.Window) (w : Window) : Type 0 where
  pub serial_is : w.serial ≡ m.serial
  pub number_is : w.number ≡ m.number
  pub title_is : string_bytes w.title ≡ m.title
  pub stands : emulator.StandsFor w.emulator (terminal_of m)
  pub drawable : IsDrawableScreen (terminal_of m).screen

-- each window stands for the row at its place
abbrev pub StandFor : List model.Window → List Window → Type 0
StandFor = Matched WindowStands

-- what is found is the window that the definitions find, in any rows that the table stands for
abbrev pub Finds :
    (List model.Window → Option model.Window) → List Window → Option Window → Type 0
Finds f ws found =
    (rows : List model.Window) → StandFor rows ws → BothOrNone WindowStands (f rows) found

-- ---- what a call makes of the rows, or why it leaves them

abbrev pub Answer : Type 0
Answer = Result (List model.Window) WindowsFault

abbrev pub Answered : {A : Type 0} → Answer → Result A WindowsFault → List Window → Type 0
Answered answer (Ok a) new = (rows : List model.Window) × (answer ≡ Ok rows) × StandFor rows new
Answered answer (Err r) new = answer ≡ Err r

-- the answer is the one of the definitions, or memory was refused
abbrev pub AnsweredIfRoom : {A : Type 0} → Answer → Result A WindowsFault → List Window → Type 0
AnsweredIfRoom answer (Ok a) new =
    (rows : List model.Window) × (answer ≡ Ok rows) × StandFor rows new
AnsweredIfRoom answer (Err r) new = (r ≡ NoMemory) ⊎ (answer ≡ Err r)

-- the answer is right for any rows that the table stood for
abbrev pub Answers : {A : Type 0} →
    (List model.Window → Answer) → List Window → Result A WindowsFault → List Window → Type 0
Answers f old result new =
    (rows : List model.Window) → StandFor rows old → Answered (f rows) result new

abbrev pub AnswersIfRoom : {A : Type 0} →
    (List model.Window → Answer) → List Window → Result A WindowsFault → List Window → Type 0
AnswersIfRoom f old result new =
    (rows : List model.Window) → StandFor rows old → AnsweredIfRoom (f rows) result new

-- ---- a call that changes one row

abbrev pub serial : model.Window → ℕ
serial w = w.serial

abbrev pub at_serial : ℕ → List model.Window → Option model.Window
at_serial s rows = row_of serial rows s

abbrev pub Change : Type 0
Change = model.Window → Result model.Window WindowsFault

abbrev pub in_place : List model.Window → ℕ → Result model.Window WindowsFault → Answer
in_place rows s (Ok w) = Ok (with_row serial rows s w)
in_place rows s (Err r) = Err r

abbrev pub in_row : List model.Window → ℕ → Option model.Window → Change → Answer
in_row rows s None change = Err NoSuchWindow
in_row rows s (Some w) change = in_place rows s (change w)

-- the row with the serial becomes what the change makes of it
abbrev pub changed : ℕ → Change → List model.Window → Answer
changed s change rows = in_row rows s (at_serial s rows) change

abbrev pub written_to : Writing → model.Window → model.Window
written_to what w = record w { writing = w.writing ++ what ∷ [] }

-- a change by which something is written to the window
abbrev pub written : Writing → Change
written what w = Ok (written_to what w)

-- a change of the window's size
abbrev pub resized : ℕ → ℕ → Change
resized rows columns = written (terminal.Size rows columns)

-- a change of the window's title
abbrev pub retitled : List ℕ → Change
retitled title w =
    if is_title title then Ok (record w { title = title }) else Err BadTitle

-- something is written to the row with the serial
abbrev pub written_in : ℕ → Writing → List model.Window → Answer
written_in s what = changed s (written what)

abbrev pub fed_in : ℕ → List ℕ → List model.Window → Answer
fed_in s bytes = written_in s (terminal.Output bytes)

abbrev pub resized_in : ℕ → ℕ → ℕ → List model.Window → Answer
resized_in s rows columns = changed s (resized rows columns)

abbrev pub retitled_in : ℕ → List ℕ → List model.Window → Answer
retitled_in s title = changed s (retitled title)

-- whether another window has the number
abbrev pub is_taken : List model.Window → model.Window → ℕ → Bool
is_taken rows w n =
    option_map_or (λ (v : model.Window). not (v.serial == w.serial)) (with_number rows n) false

-- a change of the window's number, unless another window has the new one
abbrev pub with_new_number : List model.Window → ℕ → Change
with_new_number rows n w =
    if is_taken rows w n then Err NumberTaken else Ok (record w { number = n })

abbrev pub renumbered : ℕ → ℕ → List model.Window → Answer
renumbered s n rows = changed s (with_new_number rows n) rows

-- ---- windows that come and go

abbrev pub new_row : ℕ → ℕ → ℕ → ℕ → ℕ → List ℕ → model.Window
new_row s number rows columns keep title = record {
  serial = s;
  number = number;
  title = title;
  rows = rows;
  columns = columns;
  keep = keep;
  writing = [];
}

abbrev pub numbered : List model.Window → Option ℕ → (ℕ → model.Window) → List ℕ → Answer
numbered ws None window title = Err Full
numbered ws (Some n) window title =
    if is_title title then Ok (ws ++ window n ∷ []) else Err BadTitle

-- whether the serial is above those of all windows
abbrev pub is_above : ℕ → List model.Window → Bool
is_above s ws = list_all (λ (w : model.Window). nat_lt w.serial s) ws

-- the number of a window that opens: the lowest one that is free; None if its serial isn't above
-- all others, or no number is free
abbrev pub number_for : ℕ → List model.Window → Option ℕ
number_for s ws = if is_above s ws then free_number ws else None

-- a window opens
abbrev pub opened : ℕ → ℕ → ℕ → ℕ → List ℕ → List model.Window → Answer
opened s rows columns keep title ws =
    numbered ws (number_for s ws) (λ n. new_row s n rows columns keep title) title

abbrev pub without : List model.Window → ℕ → Option model.Window → Answer
without rows s None = Err NoSuchWindow
without rows s (Some w) = Ok (filter (λ (v : model.Window). not (v.serial == s)) rows)

-- the window with the serial is closed
abbrev pub closed : ℕ → List model.Window → Answer
closed s rows = without rows s (at_serial s rows)
