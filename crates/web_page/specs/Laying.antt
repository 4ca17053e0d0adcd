-- How updates are laid over what a browser shows.
use Rattle.std.specs.Prelude.{ℕ, zero, suc, List, [], ◌∷◌, take, map}
use Rattle.terminal_model.specs.Screen.{Screen}
use Rattle.web_page.specs.declared.sheet.Head.{Head}
use Rattle.web_page.specs.Runs.{Run, runs}
use Rattle.web_page.specs.Updates.{Update, head_of}

-- what a browser shows
pub record Shown : Type 0 where
  pub head : Head
  pub rows : List (List Run)

-- a row takes its place, or comes after the last one
unfoldable pub put_at : ℕ → List Run → List (List Run) → List (List Run)
put_at n row [] = row ∷ []
put_at zero row (old ∷ page) = row ∷ page
put_at (suc n) row (old ∷ page) = old ∷ put_at n row page

unfoldable pub put_all : List (ℕ × List Run) → List (List Run) → List (List Run)
put_all [] page = page
put_all (p ∷ later) page = put_all later (put_at p.0 p.1 page)

-- the rows of an update take their places, and rows past its size go
abbrev pub laid : Update → Shown → Shown
laid u before = record { head = u.head; rows = take u.head.rows (put_all u.rows before.rows) }

-- the page of a screen as a browser shows it
abbrev pub page_of : Screen → Shown
page_of x = record { head = head_of x; rows = map runs x.page }
