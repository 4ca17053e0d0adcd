-- What a browser is sent of a page, and how that is spelled.
use Rattle.std.specs.Prelude.{ℕ, List, [], ◌∷◌, ◌++◌, decimal, codes}
use Rattle.std.specs.List.{flat_map}
use Rattle.terminal_model.specs.Screen.{Screen}
use Rattle.web_page.specs.declared.sheet.Head.{Head}
use Rattle.web_page.specs.Styles.{flag}
use Rattle.web_page.specs.Runs.{Run, spelled_runs}

-- a head, and rows with their numbers
pub record Update : Type 0 where
  pub head : Head
  pub rows : List (ℕ × List Run)

-- the size of a screen, its cursor, and the modes that a browser heeds
abbrev pub head_of : Screen → Head
head_of x = record {
  rows = x.state.rows;
  columns = x.state.columns;
  line = x.state.line;
  column = x.state.column;
  shows_cursor = x.state.modes.shows_cursor;
  is_inverted = x.state.modes.is_inverted;
  has_application_arrows = x.state.modes.has_application_arrows;
}

-- the numbers of a head after the first one
abbrev pub numbers_of : Head → List ℕ
numbers_of h =
    h.columns ∷ h.line ∷ h.column ∷ flag h.shows_cursor 1 ∷ flag h.is_inverted 1
    ∷ flag h.has_application_arrows 1 ∷ []

abbrev pub next_number : ℕ → List ℕ
next_number n = 0x2C ∷ decimal n

-- ,[NUMBER,STYLE,"TEXT",STYLE,"TEXT"]
abbrev pub spelled_row : (ℕ × List Run) → List ℕ
spelled_row p = codes ",[" ++ (decimal p.0 ++ (spelled_runs p.1 ++ codes "]"))

-- [ROWS,COLUMNS,LINE,COLUMN,SHOWN,INVERTED,ARROWS,[..],[..]]
abbrev pub spelled : Update → List ℕ
spelled u =
    codes "[" ++ (decimal u.head.rows ++ (flat_map next_number (numbers_of u.head)
    ++ (flat_map spelled_row u.rows ++ codes "]")))
